use Rattle.std.proofs.Common.{◌≡◌, ℕ, ◌+◌, ◌*◌, ◌<◌, ◌≤◌, get_or}
use Rattle.multiplier.proofs.rows.add_scaled_row.Given as goal

abbrev pub invariant-loop-t : goal.invariant-loop-t
invariant-loop-t l =
    ((u : ℕ) → u < l.t → get_or l.sums u 0 ≡ get_or l.initial.sums u 0 + l.x * get_or l.row u 0)
    × ((u : ℕ) → l.t ≤ u → get_or l.sums u 0 ≡ get_or l.initial.sums u 0)
