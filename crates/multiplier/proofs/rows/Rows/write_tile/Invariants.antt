use Rattle.std.proofs.Common.{◌≡◌, ℕ, ◌+◌, ◌%◌, ◌<◌, get_or}
use Rattle.multiplier.specs.Methods.{row_sum}
use Rattle.multiplier.proofs.rows.Rows.write_tile.Given as goal

abbrev pub invariant-loop-t : goal.invariant-loop-t
invariant-loop-t g l = (u : ℕ) → u < l.t → get_or l.output u 0 ≡ row_sum l.self (l.start + u) % l.self.modulus
