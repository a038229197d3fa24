use Rattle.std.proofs.Common.{arith}
use Rattle.house.specs.LawProofs.Lawfulness.{p_positive, p_small}
use Rattle.house.specs.NumberSets.{Admissible}
use Rattle.reconcile.specs.Reconcilers.{SmallNumbers}
use Rattle.house.proofs.house.rounding.Goals as goal

pub invariant_of-result : goal.invariant_of-result
invariant_of-result g c =
    let admits : Admissible c.SIZES-sizes.result = rw c.SIZES-sizes.ensures g.N.NumberSet.admissible in
    let small : SmallNumbers c.NUMBERS.result = rw c.NUMBERS.ensures g.met.R.Reconciler.sound.small in
    record {
      positive = p_positive _ admits;
      p_below = p_small _ admits;
      less = admits.p_below;
      q_below = admits.modulus.below;
      step_least = omega (arith, small.step_is);
      step_most = omega (arith, small.step_is);
    }
