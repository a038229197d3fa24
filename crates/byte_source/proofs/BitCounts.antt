-- How many bits a number needs.
use Rattle.std.proofs.Common.{◌≡◌, ℕ, suc, ◌+◌, ◌-◌, ◌*◌, ◌^◌, ◌<◌, ◌≤◌, ⊎_elim, pow-suc, arith, pow_mono}
use lib.Count.{count_leading_zeros}
use Rattle.std.proofs.lemmas.Nat.{leading_length}
use Rattle.std.proofs.lemmas.Int.Digits.{length-digits_of-le, number_lt, number_digits_of, all_below_base_digits_of}
use Rattle.std.proofs.lemmas.Bool.{cases_lt}
use Rattle.std.specs.Int.Digits.{digits_of}
use Rattle.byte_source.specs.Derivation.{bits, IsBitCount}

pub bits_le : (m k : ℕ) → m < 2 ^ k → bits m ≤ k
unfolding bits
bits_le m k h = length-digits_of-le 2 k m (omega arith) h

pub bits_fit : (m : ℕ) → m < 2 ^ bits m
unfolding bits
bits_fit m = omega (arith, number_lt 2 (digits_of 2 m) (all_below_base_digits_of 2 m (omega arith)), number_digits_of 2 m (omega arith))

-- a number of bits that m fits, of which it needs the last, is how many it needs
pub bits_is : (m b : ℕ) → m < 2 ^ b → 2 ^ b ≤ 2 * m + 1 → b ≡ bits m
bits_is m b fits tight =
    ⊎_elim
    (λ below.
    let longer : 2 ^ suc (bits m) ≤ 2 ^ b = pow_mono below in
    absurd (omega (arith, longer, pow-suc 2 (bits m), bits_fit m, tight)))
    (λ enough. omega (arith, bits_le m b fits))
    (cases_lt (bits m) b)

is_bit_count : (m : ℕ) → IsBitCount m (bits m)
is_bit_count m = record {
  fits = bits_fit m;
  least = λ some.
      ⊎_elim
      (λ below. absurd (omega (arith, bits_le m (bits m - 1) below)))
      (λ enough. enough)
      (cases_lt m (2 ^ (bits m - 1)));
}

-- what the code computes
module _ (m : ℕ) (fits : m < 2 ^ 32) where
  pub leading_bits : 32 - count_leading_zeros 32 m ≡ bits m
  leading_bits =
      let top = leading_length 32 m fits in
      let is : top.0 ≡ bits m = bits_is m top.0 top.2 top.3 in
      omega (arith, top.1)

  pub leading_is_bit_count : IsBitCount m (32 - count_leading_zeros 32 m)
  leading_is_bit_count = rw leading_bits (is_bit_count m)
