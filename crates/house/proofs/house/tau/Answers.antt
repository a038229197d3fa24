use Rattle.std.proofs.Common.{◌^◌, arith}
use Rattle.std.proofs.lemmas.Nat.{mul-le}
use Rattle.reconcile.specs.Reconcilers.{SmallNumbers}
use Rattle.house.specs.NumberSets.{Admissible}
use Rattle.house.proofs.house.tau.Goals as goal

pub overflow_mul-formula : goal.overflow_mul-formula
overflow_mul-formula g c =
    let admits : Admissible c.SIZES.result = rw c.SIZES.ensures g.N.NumberSet.admissible in
    let small : SmallNumbers c.NUMBERS.result = rw c.NUMBERS.ensures g.met.R.Reconciler.sound.small in
    omega (arith, mul-le c.NUMBERS.result.tolerance.times c.SIZES.result.q 16 (2 ^ 23) (omega arith) (omega (arith, admits.modulus.below)))
