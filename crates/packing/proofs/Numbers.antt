-- Numbers of a width.
use Rattle.std.proofs.Common.{◌≡◌, ℕ, ◌*◌, ◌%◌, ◌^◌, ◌≤◌, arith}
use Rattle.std.proofs.lemmas.Nat.{one_shl}

-- `1 << bits`
pub limit : (bits : ℕ) → bits ≤ 16 → 1 * 2 ^ bits % 2 ^ 32 ≡ 2 ^ bits
limit bits few = one_shl bits 32 (omega arith)
