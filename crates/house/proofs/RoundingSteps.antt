-- The steps by which a Rounding finds the rounded value: the lemmas of RoundingSearch at its numbers, and recovering in parts.
use Rattle.std.specs.Prelude.{◌≡◌, ℕ, ◌+◌, ◌-◌, ◌*◌, ◌/◌, ◌%◌, ◌<◌, ◌≤◌, ◌⊎◌}
use Rattle.std.proofs.Common.{⊎_elim, inl, inr, sym, ap, ◌∙◌, arith}
use Rattle.std.proofs.lemmas.Bool.{cases_lt}
use Rattle.house.specs.Rounding.{recover, round}
use Rattle.house.specs.LawProofs.Classes.{lowered}
use Rattle.house.specs.LawProofs.Floors.{floor_parts}
use Rattle.house.specs.LawProofs.Roundings.{recover_form}
use Rattle.house.specs.declared.rounding.Rounding.{Rounding}
use Rattle.house.proofs.RoundingSearch as search

-- a step that is not 1 is 2
one_or_two : (step : ℕ) → 1 ≤ step → step ≤ 2 → (step ≡ 1) ⊎ (step ≡ 2)
one_or_two step least most = ⊎_elim (λ l. inl (omega arith)) (λ l. inr (omega arith)) (cases_lt step 2)

module _ (r : Rounding) where
  either : (r.step ≡ 1) ⊎ (r.step ≡ 2)
  either = one_or_two r.step r.step_least r.step_most

  -- recovering, with the floor in parts
  pub recover_parts : (y : ℕ) → y * (r.q / r.p) + y * (r.q % r.p) / r.p + (y * (r.q / r.p) + y * (r.q % r.p) / r.p + y) % r.step ≡ recover r.q r.p r.step y
  recover_parts y =
      ap (λ f. f + (f + y) % r.step) (floor_parts r.q r.p r.positive r.less y) ∙ sym (recover_form r.q r.p r.step y either)

  -- last is the largest value whose floor is at most x
  module _ (x last : ℕ) (most : last * r.q / r.p ≤ x) (next : x < (last + 1) * r.q / r.p) where
    pub low_under : (last + x) % r.step ≤ last → recover r.q r.p r.step (lowered r.step x last) ≤ x
    low_under = search.low_under r.q r.p r.step r.positive r.less either x last most next

    pub over_high : (last + x) % r.step ≤ last → x < recover r.q r.p r.step (lowered r.step x last + r.step)
    over_high = search.over_high r.q r.p r.step r.positive r.less either x last most next

    pub round_first : last < (last + x) % r.step → (last + x) % r.step ≡ round r.q r.p r.step x
    round_first = search.round_first r.q r.p r.step r.positive r.less either x last most next

    pub round_down : (last + x) % r.step ≤ last → x < r.q
        → (lowered r.step x last + r.step ≤ r.p → x - recover r.q r.p r.step (lowered r.step x last) ≤ recover r.q r.p r.step (lowered r.step x last + r.step) - x)
        → lowered r.step x last ≡ round r.q r.p r.step x
    round_down = search.round_down r.q r.p r.step r.positive r.less either x last most next

    pub round_up : (last + x) % r.step ≤ last → lowered r.step x last + r.step ≤ r.p
        → recover r.q r.p r.step (lowered r.step x last + r.step) - x < x - recover r.q r.p r.step (lowered r.step x last)
        → lowered r.step x last + r.step ≡ round r.q r.p r.step x
    round_up = search.round_up r.q r.p r.step r.positive r.less either x last most next

pub ruleset round_steps = (round_first, round_down, round_up, low_under, over_high)
