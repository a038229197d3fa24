-- The house profiles by an index.
use Rattle.std.specs.Prelude.{ℕ, if◌then◌else◌, ◌==◌}
use Rattle.profile.specs.Laws.{Functions}
use Rattle.profile.specs.declared.numbers.Numbers.{Numbers}
use Rattle.reconcile.specs.Ding.{ding_numbers, ding_functions}
use Rattle.reconcile.specs.Okcn.{okcn_numbers, okcn_functions}
use Rattle.house.specs.House.{house_functions, t_ding, t_okcn, s_ding, s_okcn, w_ding, w_okcn}
use Rattle.house.specs.NumberSets.{sizes_t, sizes_s, sizes_w}

-- what is said of the numbers and functions of a profile, for the profile of an index, or else `other`
abbrev pub by_profile : {X : Type 0} → (Numbers → Functions → X) → X → ℕ → X
by_profile says other index =
    if index == 0 then says t_ding (house_functions sizes_t ding_numbers ding_functions) else
    if index == 1 then says t_okcn (house_functions sizes_t okcn_numbers okcn_functions) else
    if index == 2 then says s_ding (house_functions sizes_s ding_numbers ding_functions) else
    if index == 3 then says s_okcn (house_functions sizes_s okcn_numbers okcn_functions) else
    if index == 4 then says w_ding (house_functions sizes_w ding_numbers ding_functions) else
    if index == 5 then says w_okcn (house_functions sizes_w okcn_numbers okcn_functions) else
    other
