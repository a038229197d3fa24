-- A number set and a reconciler make a lawful profile.
use Rattle.std.proofs.Common.{⊎_elim, sym, ap, ◌∙◌, mul-add, mul_left_comm, mul-le-mul_left, arith, pow_mono}
use Rattle.std.specs.Prelude.{◌≡◌, ◌+◌, ◌-◌, ◌*◌, ◌/◌, ◌^◌, ◌<◌, ◌≤◌}
use Rattle.std.proofs.lemmas.Nat.{mul-le, pow_pos}
use Rattle.profile.specs.Laws.{InRange, Lawful}
use Rattle.house.specs.LawProofs.Roundings.{recover_range, round_within, round_near}
use Rattle.house.specs.House.{house_numbers, house_functions}
use Rattle.house.specs.NumberSets.{Admissible}
use Rattle.reconcile.specs.Reconcilers.{Reconciliation, Sound, Reconciles, tolerance}
use Rattle.reconcile.specs.declared.reconciler.ReconcilerNumbers.{ReconcilerNumbers}
use Rattle.house.specs.declared.number_set.Sizes.{Sizes}

module _ (s : Sizes) (admits : Admissible s) where
  pub p_positive : 0 < s.p
  p_positive = omega (arith, admits.p_is, pow_mono admits.w_least)

  pub p_small : s.p < 2 ^ 15
  p_small = omega (arith, admits.p_is, pow_mono admits.w_most, pow_pos s.w)

  -- what two products can differ by is no less than one error, so that an eighth of the circle holds it
  pub eighth_some : 1 ≤ s.q / 8
  eighth_some =
      let one : (2 * 1) * 1 ≤ (2 * s.l) * (s.e + s.rounding) =
      mul-le (2 * 1) 1 (2 * s.l) (s.e + s.rounding)
      (omega (arith, admits.l_least)) (omega (arith, admits.e_least)) in
      omega (arith, admits.within_eighth)

module _ (s : Sizes) (k : ReconcilerNumbers) (f : Reconciliation) (admits : Admissible s)
    (sound : Sound k f) where
  reconciles : Reconciles k f s.q
  reconciles = sound.at s.q admits.modulus (eighth_some s admits)

  positive : 0 < s.p
  positive = p_positive s admits

  -- step times what an eighth of the circle holds
  tolerated : 2 * s.l * (k.step * s.e + k.step * s.rounding) ≤ tolerance k s.q
  tolerated =
      let same : 2 * s.l * (k.step * s.e + k.step * s.rounding) ≡ k.step * (2 * s.l * (s.e + s.rounding)) =
      ap (λ t. 2 * s.l * t) (sym (mul-add k.step s.e s.rounding))
      ∙ mul_left_comm (2 * s.l) k.step (s.e + s.rounding) in
      let eighth : k.step * (2 * s.l * (s.e + s.rounding)) ≤ k.step * (s.q / 8 - 1) =
      mul-le-mul_left k.step admits.within_eighth in
      omega (arith, reconciles.tolerance_least)

  pub house_in_range : InRange (house_numbers s k)
  house_in_range = record {
    n_power = admits.n_power;
    q_odd = admits.modulus.odd;
    q_below = admits.modulus.below;
    w_least = admits.w_least;
    w_most = omega (arith, admits.w_most);
    p_is = admits.p_is;
    whole_bytes = admits.whole_bytes;
    e_least = admits.e_least;
    l_least = admits.l_least;
    r_below =
        ⊎_elim
        (λ e. rw e (omega (arith, admits.rounding_below)))
        (λ e. rw e (omega (arith, admits.rounding_below)))
        sound.small.step_is;
    tau_below = reconciles.tolerance_below;
    step_is = sound.small.step_is;
    coins_least = sound.small.coins_least;
    coins_most = sound.small.coins_most;
    width_least = sound.small.width_least;
    width_most = sound.small.width_most;
    numbers_byte_below = admits.byte_below;
    reconciler_byte_below = sound.small.byte_below;
  }

  pub house_lawful : Lawful (house_numbers s k) (house_functions s k f)
  house_lawful = record {
    in_range = house_in_range;
    recover_range = recover_range s.q s.p k.step positive admits.p_below sound.small.step_is;
    signal_range = reconciles.signal_range;
    bit_range = reconciles.bit_range;
    read_range = reconciles.read_range;
    round_range = λ x h. round_within s.q s.p k.step positive admits.p_below sound.small.step_is x;
    round_near =
        round_near s.q s.p k.step positive admits.p_below sound.small.step_is
        s.rounding admits.rounding_reaches;
    reads_within = reconciles.reads_within;
    balanced = reconciles.balanced;
    within_tolerance = tolerated;
  }
