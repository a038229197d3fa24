use Rattle.std.proofs.Common.{◌≡◌, ℕ, ◌+◌, ◌<◌, length, get_or}
use Rattle.multiplier.specs.Sums.{sum_of_rows}
use Rattle.multiplier.proofs.rows.Rows.add_to.Given as goal

abbrev pub invariant-loop-i : goal.invariant-loop-i
invariant-loop-i l = (t : ℕ) → t < length l.initial.sums → get_or l.sums t 0 ≡ sum_of_rows l.left l.words l.i (l.start + t)
