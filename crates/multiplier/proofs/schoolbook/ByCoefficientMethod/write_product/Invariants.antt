use Rattle.std.proofs.Common.{◌≡◌, ℕ, ◌<◌, get_or}
use Rattle.multiplier.specs.Methods.{coefficient_of}
use Rattle.multiplier.proofs.schoolbook.ByCoefficientMethod.write_product.Given as goal

abbrev pub invariant-loop-k : goal.invariant-loop-k
invariant-loop-k l = (j : ℕ) → j < l.k → get_or l.output j 0 ≡ coefficient_of l.factors j
