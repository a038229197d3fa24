use Rattle.std.proofs.Common.{◌≡◌, ℕ, ◌*◌, ◌%◌, ◌<◌, get_or}
use Rattle.multiplier.specs.Methods.{row_sum}
use Rattle.multiplier.proofs.rows.Rows.write_sums.Given as goal

abbrev pub invariant-loop-i : goal.invariant-loop-i
invariant-loop-i l = (j : ℕ) → j < 4 * l.i → get_or l.output j 0 ≡ row_sum l.self j % l.self.modulus

abbrev pub invariant-loop-k : goal.invariant-loop-k
invariant-loop-k l = (j : ℕ) → j < l.k → get_or l.output j 0 ≡ row_sum l.self j % l.self.modulus
