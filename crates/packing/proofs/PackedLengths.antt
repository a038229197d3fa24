-- Lengths of packed lists.
use Rattle.std.proofs.Common.{◌≡◌, ℕ, ◌+◌, ◌*◌, ◌/◌, ◌%◌, ◌≤◌, sym, ap, ◌∙◌, arith}
use Rattle.std.proofs.Math.Nat.{add-mul, mul_right_comm}
use Rattle.std.proofs.lemmas.Nat.{div-add-mod', mul-le}
use Rattle.packing.specs.Lengths.{packed_length}

-- so many whole eights, and what is left over
pub by_eights : (many w : ℕ) → many / 8 * w + (many % 8 * w + 7) / 8 ≡ packed_length many w
by_eights many w =
    let q = many / 8 in
    let r = many % 8 in
    let whole : q * 8 + r ≡ many = div-add-mod' many 8 in
    let parts : (q * 8 + r) * w ≡ q * 8 * w + r * w = add-mul (q * 8) r w in
    let eights : q * 8 * w ≡ q * w * 8 = mul_right_comm q 8 w in
    let both : many * w ≡ q * 8 * w + r * w = ap (λ (m : ℕ). m * w) (sym whole) ∙ parts in
    omega (arith, both, eights)

-- no number takes more than two bytes
pub two_bytes_each : (many w : ℕ) → w ≤ 16 → packed_length many w ≤ 2 * many
two_bytes_each many w narrow = omega (arith, mul-le many w many 16 (omega arith) narrow)
