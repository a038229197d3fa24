-- No definitions: the proofs of the multipliers' law, which the source cites. A ring's degree is a power of
-- two, since one bit of it is set.
use Rattle.std.specs.Prelude.{◌≡◌, ℕ, zero, suc, ◌*◌, ◌/◌, ◌%◌, ◌^◌, ◌<◌, ◌≤◌}
use Rattle.std.proofs.Common.{inl, inr, ⊎_elim, pow-suc, arith}
use Rattle.std.specs.Int.Count.{ones, ones_step}
use Rattle.std.proofs.lemmas.Nat.{mul-le, ones_le_self, zero_from_ones}
use Rattle.std.proofs.lemmas.Bool.{cases_eq}
use Rattle.ring.specs.declared.degree.TheConstants.{LARGEST_DEGREE}
use Rattle.multiplier.specs.Multipliers.{IsDegree, InRange}
use Rattle.multiplier.specs.Rings.{Ring}

one_bit : (k n : ℕ) → n < 2 ^ k → ones n ≡ 1 → (m : ℕ) × (m < k) × (n ≡ 2 ^ m)
one_bit zero n h one = absurd (omega (arith, ones_le_self n))
one_bit (suc k) n h one =
    let step = ones_step n in
    let low : n / 2 < 2 ^ k = omega (arith, pow-suc 2 k) in
    ⊎_elim
    (λ (odd : n % 2 ≡ 1). let none = zero_from_ones (n / 2) (omega arith) in (0, omega arith, omega arith))
    (λ (even : n % 2 ≡ 0).
    let rest = one_bit k (n / 2) low (omega arith) in
    (suc rest.0, omega (arith, rest.1), omega (arith, rest.2, pow-suc 2 rest.0)))
    (⊎_elim (λ odd. inl odd) (λ other. inr (omega arith)) (cases_eq (n % 2) 1))

pub degree_from_ones : (n : ℕ) → ones n ≡ 1 → n ≤ LARGEST_DEGREE → IsDegree n
degree_from_ones n one most =
    let m = one_bit 11 n (omega arith) one in
    (m.0, omega (arith, m.1), m.2)

-- whatever the need, up to 65536 words
pub need_in_range : (ring : Ring) (need : ℕ) → need ≤ 65536
    → InRange ring.degree ring.modulus need
need_in_range ring need most = record {
  degree = degree_from_ones ring.degree ring.power ring.most;
  modulus = ring.is_modulus;
  need_most = most;
}

-- with no more than 64 scratch words for each coefficient
pub in_range : (ring : Ring) (words : ℕ) → words ≤ 64
    → InRange ring.degree ring.modulus (words * ring.degree)
in_range ring words few =
    let most : words * ring.degree ≤ 65536 =
    omega (arith, mul-le words ring.degree 64 LARGEST_DEGREE few ring.most) in
    need_in_range ring (words * ring.degree) most
