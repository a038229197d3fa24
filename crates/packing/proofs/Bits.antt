-- Bits of numbers and of bytes.
use Rattle.std.proofs.Common.{◌≡◌, ℕ, zero, suc, ◌+◌, ◌*◌, ◌/◌, ◌%◌, ◌^◌, ◌<◌, ◌≤◌, List, [], ◌∷◌, length, get_or, sym, ap, ◌∙◌, ⊎_elim, arith}
use Rattle.std.specs.Int.{bit_at}
use Rattle.std.proofs.Math.Nat.{mul_comm}
use Rattle.std.proofs.lemmas.Bool.{cases_lt}
use Rattle.std.proofs.lemmas.List.{get_or_past}
use Rattle.std.proofs.lemmas.List.Elements.{All-head, All-tail}
use Rattle.std.proofs.lemmas.Nat.{pow_pos, shr-shr, shr_split, mod_below, div-add-mod'}
use Rattle.std.proofs.lemmas.Nat.Bits.{bit_at_cat_low, bit_at_cat_high, bit_at_above, bit_at-zero, same_from_bits}
use Rattle.packing.specs.Packing.{number, digits, AllFit}
use Rattle.packing.specs.PackingLaws.{bit_of}
use Rattle.packing.proofs.Digits.{number_below}

-- bit k of digit i
pub bit_of_digit : (w : ℕ) (xs : List ℕ) (i k : ℕ) → AllFit w xs → i < length xs → k < w → bit_at (number w xs) (i * w + k) ≡ bit_at (get_or xs i 0) k
bit_of_digit w [] i k fit inside low = absurd (omega arith)
bit_of_digit w (x ∷ xs) zero k fit inside low =
    ap (bit_at (number w (x ∷ xs))) (omega arith)
    ∙ ap (λ n. bit_at n k) (omega (arith, mul_comm (2 ^ w) (number w xs)))
    ∙ bit_at_cat_low (number w xs) w x k low
bit_of_digit w (x ∷ xs) (suc i) k fit inside low =
    let first : x < 2 ^ w = All-head (λ d. d < 2 ^ w) x xs fit in
    let rest = bit_of_digit w xs i k (All-tail (λ d. d < 2 ^ w) x xs fit) (omega arith) low in
    ap (λ n. bit_at n (suc i * w + k)) (omega (arith, mul_comm (2 ^ w) (number w xs)))
    ∙ bit_at_cat_high (number w xs) w x (suc i * w + k) first (omega arith)
    ∙ ap (bit_at (number w xs)) (omega arith)
    ∙ rest

-- no bit comes after the last digit
pub bit_after : (w : ℕ) (xs : List ℕ) (j : ℕ) → AllFit w xs → length xs * w ≤ j → bit_at (number w xs) j ≡ 0
bit_after w xs j fit after = bit_at_above (number w xs) (length xs * w) j (number_below w xs fit) after

-- the bits of bytes are those of the number that they stand for
pub bit_of_bytes : (bytes : List ℕ) (j : ℕ) → AllFit 8 bytes → bit_of bytes j ≡ bit_at (number 8 bytes) j
bit_of_bytes bytes j fit =
    let place : j / 8 * 8 + j % 8 ≡ j = div-add-mod' j 8 in
    ⊎_elim
    (λ (inside : j / 8 < length bytes).
    sym (bit_of_digit 8 bytes (j / 8) (j % 8) fit inside (mod_below j 8 (omega arith))) ∙ ap (bit_at (number 8 bytes)) place)
    (λ (past : length bytes ≤ j / 8).
    ap (λ b. bit_at b (j % 8)) (get_or_past bytes (j / 8) 0 past) ∙ bit_at-zero (j % 8)
    ∙ sym (bit_after 8 bytes j fit (omega arith)))
    (cases_lt (j / 8) (length bytes))

-- a number that has no bit from k on is below 2^k
pub below_from_bits : (x k : ℕ) → ((j : ℕ) → k ≤ j → bit_at x j ≡ 0) → x < 2 ^ k
below_from_bits x k none =
    let high : x / 2 ^ k ≡ 0 = same_from_bits (x / 2 ^ k) 0 (λ i. ap (λ n. n % 2) (shr-shr x k i) ∙ none (k + i) (omega arith) ∙ sym (bit_at-zero i)) in
    omega (arith, ap (λ h. h * 2 ^ k) high, shr_split x k, mod_below x (2 ^ k) (pow_pos k))

-- bit k of digit i of a number
pub bit_of_digits : (w many x i k : ℕ) → i < many → k < w → bit_at (get_or (digits w many x) i 0) k ≡ bit_at x (i * w + k)
bit_of_digits w zero x i k inside low = absurd (omega arith)
bit_of_digits w (suc many) x zero k inside low =
    sym (bit_at_cat_low (x / 2 ^ w) w (x % 2 ^ w) k low) ∙ ap (λ n. bit_at n k) (shr_split x w) ∙ ap (bit_at x) (omega arith)
bit_of_digits w (suc many) x (suc i) k inside low =
    let exponent : w + (i * w + k) ≡ suc i * w + k = omega arith in
    bit_of_digits w many (x / 2 ^ w) i k (omega arith) low ∙ ap (λ n. n % 2) (shr-shr x w (i * w + k)) ∙ ap (bit_at x) exponent
