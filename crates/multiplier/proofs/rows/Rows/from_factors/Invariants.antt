use Rattle.std.proofs.Common.{◌≡◌, ℕ, ◌<◌, get_or}
use Rattle.multiplier.specs.Sums.{negated}
use Rattle.multiplier.proofs.rows.Rows.from_factors.Given as goal

abbrev pub invariant-loop-j : goal.invariant-loop-j
invariant-loop-j l = (u : ℕ) → u < l.j → get_or l.negated u 0 ≡ negated l.q (get_or l.right u 0)
