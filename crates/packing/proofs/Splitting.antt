-- Numbers of 128 bits from bytes, and split into digits.
use Rattle.std.proofs.Common.{◌≡◌, ℕ, zero, suc, ◌+◌, ◌-◌, ◌*◌, ◌/◌, ◌%◌, ◌^◌, ◌<◌, ◌≤◌, List, [], ◌∷◌, ◌++◌, length, get_or, take, drop, set, replicate, sym, refl, ap, ◌∙◌, min, ⊎_elim, arith}
use lib.Bits.{bit_and}
use Rattle.std.specs.Int.{w128, byte_worth, sum_through, from_le_bytes}
use Rattle.std.proofs.Math.Nat.{add-mul, div-one, mul_assoc, mul_comm}
use Rattle.std.proofs.lemmas.List.{take_all, take_more_set, length-append, length-replicate, drop-replicate}
use Rattle.std.proofs.lemmas.List.Elements.{All-from_get_or}
use Rattle.std.proofs.lemmas.Nat.{and_mask, mul-le, one_shl, pow-add, shr-shr, shr_split}
use Rattle.std.proofs.lemmas.Bool.{cases_lt}
use Rattle.packing.specs.Packing.{number, digits, AllFit}
use Rattle.packing.proofs.Digits.{none, digits_append, digits_below, number_append}
use Rattle.packing.proofs.Eights.{scale}
use Rattle.packing.proofs.Joining.{number_more}

-- ---- from bytes

worth_is : (i b : ℕ) → byte_worth i b ≡ b * 2 ^ (i * 8)
worth_is zero b = omega arith
worth_is (suc i) b = ap (λ p. b * p) (scale (suc i))

front_number : (bytes : List ℕ) (k : ℕ) → k < length bytes → sum_through (λ i. byte_worth i (get_or bytes i 0)) k ≡ number 8 (take (k + 1) bytes)
front_number [] zero inside = absurd (omega arith)
front_number (b ∷ bytes) zero inside = omega arith
front_number bytes (suc k) inside =
    let next : k + 1 ≡ suc k = omega arith in
    (λ j. front_number bytes k (omega arith) j + worth_is (suc k) (get_or bytes (suc k) 0) j)
    ∙ ap (λ m. number 8 (take m bytes) + get_or bytes (suc k) 0 * 2 ^ (suc k * 8)) next
    ∙ sym (number_more 8 bytes (suc k) inside)

pub number_from_bytes : (bytes : List ℕ) → length bytes ≡ 16 → from_le_bytes w128 bytes ≡ number 8 bytes
number_from_bytes bytes long = front_number bytes 15 (omega arith) ∙ ap (number 8) (take_all 16 bytes (omega arith))

number_of_zeros : (k : ℕ) → number 8 (replicate k 0) ≡ 0
number_of_zeros zero = refl
number_of_zeros (suc k) = omega (arith, ap (λ m. 2 ^ 8 * m) (number_of_zeros k))

-- zeros above do not change a number
pub number_padded : (bytes : List ℕ) (k : ℕ) → number 8 (bytes ++ replicate k 0) ≡ number 8 bytes
number_padded bytes k =
    number_append 8 bytes (replicate k 0) ∙ ap (λ m. number 8 bytes + 2 ^ (length bytes * 8) * m) (number_of_zeros k) ∙ omega arith

pub bytes_fit : (bytes : List ℕ) → ((i : ℕ) → get_or bytes i 0 < 256) → AllFit 8 bytes
bytes_fit bytes below = All-from_get_or (λ b. b < 256) bytes 0 (λ i inside. below i)

-- ---- into digits

digits_more : (w i x : ℕ) → digits w (i + 1) x ≡ digits w i x ++ (x / 2 ^ (i * w) % 2 ^ w) ∷ []
digits_more w i x = digits_append w i 1 x

-- the low byte
pub low_byte : (x : ℕ) → bit_and x 255 ≡ x % 2 ^ 8
low_byte x = and_mask x 8

-- the low bits, by a mask
pub low_bits : (w x : ℕ) → w ≤ 16 → bit_and x (1 * 2 ^ w % 2 ^ 64 - 1) ≡ x % 2 ^ w
low_bits w x narrow = ap (λ p. bit_and x (p - 1)) (one_shl w 64 (omega arith)) ∙ and_mask x w

pub split_more : (w x : ℕ) (numbers : List ℕ) (i rest digit : ℕ) → i < length numbers → rest ≡ x / 2 ^ (i * w) → digit ≡ rest % 2 ^ w → take i numbers ≡ digits w i x → take (i + 1) (set numbers i digit) ≡ digits w (i + 1) x
split_more w x numbers i rest digit inside is_rest is before =
    take_more_set numbers i digit inside ∙ (λ j. before j ++ (is j) ∷ []) ∙ ap (λ r. digits w i x ++ (r % 2 ^ w) ∷ []) is_rest ∙ sym (digits_more w i x)

pub rest_more : (w x i rest : ℕ) → rest ≡ x / 2 ^ (i * w) → rest / 2 ^ w ≡ x / 2 ^ ((i + 1) * w)
rest_more w x i rest is =
    let exponent : i * w + w ≡ (i + 1) * w = omega (arith, add-mul i 1 w) in
    ap (λ r. r / 2 ^ w) is ∙ shr-shr x (i * w) w ∙ ap (λ e. x / 2 ^ e) exponent

pub none_split : (w x : ℕ) → x ≡ x / 2 ^ (0 * w)
none_split w x = sym (div-one x) ∙ ap (λ p. x / p) (sym (none w))

-- bytes at the front of sixteen, of which the others are zero
pub block_number : (bytes front : List ℕ) → front ≡ bytes → length bytes ≤ 16 → from_le_bytes w128 (front ++ drop (length bytes) (replicate 16 0)) ≡ number 8 bytes
block_number bytes front is few =
    let room = 16 - length bytes in
    let filled : front ++ drop (length bytes) (replicate 16 0) ≡ bytes ++ replicate room 0 = (λ j. is j ++ drop-replicate (length bytes) 16 0 j) in
    let long : length (bytes ++ replicate room 0) ≡ 16 = length-append bytes (replicate room 0) ∙ ap (λ n. length bytes + n) (length-replicate room 0) ∙ omega arith in
    ap (from_le_bytes w128) filled ∙ number_from_bytes (bytes ++ replicate room 0) long ∙ number_padded bytes room

-- the digits that lie within the low bits
digits_of_low : (w many r x : ℕ) → many * w ≤ r → digits w many (x % 2 ^ r) ≡ digits w many x
digits_of_low w many r x within =
    let low = x % 2 ^ r in
    let high = x / 2 ^ r in
    let rest = r - many * w in
    let exponent : r ≡ many * w + rest = omega arith in
    let power : 2 ^ r ≡ 2 ^ (many * w) * 2 ^ rest = ap (λ e. 2 ^ e) exponent ∙ pow-add 2 (many * w) rest in
    let worth : high * 2 ^ r ≡ 2 ^ (many * w) * (2 ^ rest * high) = mul_comm high (2 ^ r) ∙ ap (λ p. p * high) power ∙ mul_assoc (2 ^ (many * w)) (2 ^ rest) high in
    let whole : low + 2 ^ (many * w) * (2 ^ rest * high) ≡ x = omega (arith, worth, shr_split x r) in
    sym (digits_below w many low (2 ^ rest * high)) ∙ ap (digits w many) whole

-- up to eight digits, four by four
pub halves_split : (w x n : ℕ) (low high : List ℕ) → w ≤ 16 → n ≤ 8 → low ≡ digits w (min n 4) (x % 2 ^ 64) → high ≡ digits w (n - min n 4) (x / 2 ^ (4 * w) % 2 ^ 64) → low ++ high ≡ digits w n x
halves_split w x n low high narrow few lows highs =
    let m = min n 4 in
    let k = n - m in
    let low_bits : m * w ≤ 4 * 16 = mul-le m w 4 16 (omega arith) narrow in
    let high_bits : k * w ≤ 4 * 16 = mul-le k w 4 16 (omega arith) narrow in
    let count : m + k ≡ n = omega arith in
    let above : digits w k (x / 2 ^ (4 * w)) ≡ digits w k (x / 2 ^ (m * w)) =
    ⊎_elim
    (λ (less : n < 4). let none : k ≡ 0 = omega arith in ap (λ c. digits w c (x / 2 ^ (4 * w))) none ∙ sym (ap (λ c. digits w c (x / 2 ^ (m * w))) none))
    (λ (full : 4 ≤ n). let four : 4 ≡ m = omega arith in ap (λ c. digits w k (x / 2 ^ (c * w))) four)
    (cases_lt n 4) in
    (λ j. (lows ∙ digits_of_low w m 64 x (omega (arith, low_bits))) j ++ (highs ∙ digits_of_low w k 64 (x / 2 ^ (4 * w)) (omega (arith, high_bits)) ∙ above) j)
    ∙ sym (digits_append w m k x)
    ∙ ap (λ c. digits w c x) count
