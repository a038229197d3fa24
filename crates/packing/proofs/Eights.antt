-- Packing eight numbers at a time: so many eights take whole bytes.
use Rattle.std.proofs.Common.{◌≡◌, ℕ, zero, suc, ◌+◌, ◌-◌, ◌*◌, ◌/◌, ◌%◌, ◌^◌, ◌<◌, ◌≤◌, List, [], ◌++◌, length, get_or, take, drop, sym, refl, ap, ◌∙◌, arith, rules}
use Rattle.std.proofs.Math.Nat.{add-mul-div_left, div-eq_of_lt, mul_comm, mul_assoc, add-mul, zero-add, mul-le-mul_right, pow-succ'}
use Rattle.std.proofs.lemmas.List.{length-append, length-take-le, length-drop, take_all, take-append-drop, drop-drop, places}
use Rattle.std.proofs.lemmas.List.Elements.{All-same, All-take, All-drop}
use Rattle.std.proofs.lemmas.Slice.{take-put_mid}
use Rattle.std.proofs.Math.Seq.{take-add}
use borrow.Rule.Slice.PartMut.{put_mid}
use Rattle.std.specs.Simd.{first_chunks}
use Rattle.std.proofs.lemmas.Nat.{mul-le, pow_pos}
use Rattle.packing.specs.Lengths.{packed_length}
use Rattle.packing.specs.Packing.{number, digits, packed, AllFit}
use Rattle.packing.proofs.PackedLengths.{by_eights}
use Rattle.packing.proofs.Digits.{worth, length-digits, digits_append, digits_below, number_append, number_below}

-- ---- bytes

pub scale : (i : ℕ) → 256 ^ i ≡ 2 ^ (i * 8)
scale zero = refl
scale (suc i) = pow-succ' 256 i ∙ ap (λ p. 256 * p) (scale i) ∙ sym (worth 8 i)

pub few_bytes : (many w : ℕ) → many ≤ 8 → w ≤ 16 → packed_length many w ≤ 16
few_bytes many w few narrow = omega (arith, mul-le many w 8 16 few narrow)

-- ---- eights, and what comes after them

pub length-packed : (w : ℕ) (xs : List ℕ) → length (packed w xs) ≡ packed_length (length xs) w
length-packed w xs = length-digits 8 (packed_length (length xs) w) (number w xs)

-- the numbers of i eights take i w bytes
pub eights_long : (w i : ℕ) → packed_length (8 * i) w ≡ i * w
eights_long w i = let bits : 8 * i * w ≡ 8 * (i * w) = mul_assoc 8 i w in omega (arith, bits)

pub packed_append : (w i : ℕ) (xs ys : List ℕ) → AllFit w xs → length xs ≡ 8 * i → packed w (xs ++ ys) ≡ packed w xs ++ packed w ys
packed_append w i xs ys fit long =
    let m = i * w in
    let k = packed_length (length ys) w in
    let a = number w xs in
    let b = number w ys in
    let bits : length xs * w ≡ m * 8 = ap (λ n. n * w) long ∙ mul_assoc 8 i w ∙ mul_comm 8 m in
    let bytes : packed_length (length xs) w ≡ m = omega (arith, bits) in
    let all : packed_length (length (xs ++ ys)) w ≡ m + k = ap (λ n. packed_length n w) (length-append xs ys) ∙ omega (arith, bits, add-mul (length xs) (length ys) w) in
    let below : a < 2 ^ (m * 8) = rw (sym bits) (number_below w xs fit) in
    let high : (a + 2 ^ (m * 8) * b) / 2 ^ (m * 8) ≡ b = add-mul-div_left a b (pow_pos (m * 8)) ∙ ap (λ z. z + b) (div-eq_of_lt below) ∙ zero-add b in
    (λ j. digits 8 (all j) (number_append w xs ys j))
    ∙ ap (λ e. digits 8 (m + k) (a + 2 ^ e * b)) bits
    ∙ digits_append 8 m k (a + 2 ^ (m * 8) * b)
    ∙ (λ j. digits_below 8 m a b j ++ digits 8 k (high j))
    ∙ ap (λ n. digits 8 n a ++ packed w ys) (sym bytes)

-- ---- the loop over eights

eight_at : (n i : ℕ) (xs : List ℕ) → i < n → get_or (first_chunks 8 n xs) i [] ≡ take 8 (drop (8 * i) xs)
eight_at zero i xs below = absurd (omega arith)
eight_at (suc n) zero xs below = refl
eight_at (suc n) (suc i) xs below =
    let next : 8 + 8 * i ≡ 8 * suc i = omega arith in
    eight_at n i (drop 8 xs) (omega arith) ∙ ap (take 8) (drop-drop (8 * i) 8 xs) ∙ ap (λ j. take 8 (drop j xs)) next

module _ (w : ℕ) (xs : List ℕ) (eights : List (List ℕ)) (i : ℕ) (fit : AllFit w xs) (are : eights ≡ first_chunks 8 (length xs / 8) xs) (inside : i < length xs / 8) where
  here : get_or eights i [] ≡ take 8 (drop (8 * i) xs)
  here = ap (λ chunks. get_or chunks i []) are ∙ eight_at (length xs / 8) i xs inside

  pub eight_long : length (get_or eights i []) ≡ 8
  eight_long = ap length here ∙ length-take-le 8 (drop (8 * i) xs) (omega (arith, length-drop (8 * i) xs))

  pub eight_fits : AllFit w (get_or eights i [])
  eight_fits = All-same (λ x. x < 2 ^ w) _ _ here (All-take (λ x. x < 2 ^ w) 8 _ (All-drop (λ x. x < 2 ^ w) (8 * i) xs fit))

  pub eight_room : (i + 1) * w - i * w ≡ packed_length (length (get_or eights i [])) w
  eight_room = omega (arith, add-mul i 1 w, ap (λ n. n * w) eight_long)

  pub eight_inside : (out : ℕ) → out ≡ packed_length (length xs) w → (i + 1) * w ≤ out
  eight_inside out long = omega (arith, by_eights (length xs) w, mul-le-mul_right {m = i + 1} {n = length xs / 8} w (omega arith))

  pub eights_more : (out part : List ℕ) → i * w ≤ length out → part ≡ packed w (get_or eights i []) → take (i * w) out ≡ packed w (take (8 * i) xs) → take ((i + 1) * w) (put_mid (i * w) ((i + 1) * w - i * w) out part) ≡ packed w (take (8 * (i + 1)) xs)
  eights_more out part within is before =
      let size : length part ≡ w = ap length is ∙ length-packed w (get_or eights i []) ∙ omega (arith, ap (λ n. n * w) eight_long) in
      let next : 8 * (i + 1) ≡ 8 * i + 8 = omega arith in
      let front : length (take (8 * i) xs) ≡ 8 * i = length-take-le (8 * i) xs (omega arith) in
      take-put_mid (i * w) ((i + 1) * w - i * w) out part ((i + 1) * w) (omega (arith, add-mul i 1 w, size)) within
      ∙ (λ j. before j ++ is j)
      ∙ ap (λ e. packed w (take (8 * i) xs) ++ packed w e) here
      ∙ sym (packed_append w i (take (8 * i) xs) (take 8 (drop (8 * i) xs)) (All-take (λ x. x < 2 ^ w) (8 * i) xs fit) front)
      ∙ ap (packed w) (sym (take-add (8 * i) 8 xs))
      ∙ ap (λ m. packed w (take m xs)) (sym next)

-- what comes after the last whole eight
module _ (w : ℕ) (xs rest : List ℕ) (eights : ℕ) (out : List ℕ) (fit : AllFit w xs) (count : eights ≡ length xs / 8) (is_rest : rest ≡ drop (length xs / 8 * 8) xs) (long : length out ≡ packed_length (length xs) w) where
  start : eights * w ≡ length xs / 8 * w
  start = ap (λ n. n * w) count

  pub rest_inside : eights * w ≤ length out
  rest_inside = omega (arith, by_eights (length xs) w, start)

  rest_long : length rest ≡ length xs % 8
  rest_long = ap length is_rest ∙ omega (arith, length-drop (length xs / 8 * 8) xs)

  pub rest_room : length out - eights * w ≡ packed_length (length rest) w
  rest_room = omega (arith, by_eights (length xs) w, start, ap (λ n. n * w) rest_long)

  pub rest_few : length rest ≤ 8
  rest_few = omega (arith, rest_long)

  pub rest_fits : AllFit w rest
  rest_fits = All-same (λ x. x < 2 ^ w) _ _ is_rest (All-drop (λ x. x < 2 ^ w) (length xs / 8 * 8) xs fit)

  long_all : (part : List ℕ) → length part ≡ length out - eights * w → length (put_mid (eights * w) (length out - eights * w) out part) ≤ length out
  long_all part size = search (rules, places)

  pub all_packed : (i : ℕ) (part : List ℕ) → i ≡ eights → part ≡ packed w rest → take (i * w) out ≡ packed w (take (8 * i) xs) → put_mid (eights * w) (length out - eights * w) out part ≡ packed w xs
  all_packed i part done is before =
      let m = 8 * (length xs / 8) in
      let turned : length xs / 8 * 8 ≡ m = mul_comm (length xs / 8) 8 in
      let index : i ≡ length xs / 8 = done ∙ count in
      let size : length part ≡ length out - eights * w = ap length is ∙ length-packed w rest ∙ sym rest_room in
      let whole : length out ≡ eights * w + length part = omega (arith, rest_inside, size) in
      let all = put_mid (eights * w) (length out - eights * w) out part in
      let front : take (eights * w) out ≡ packed w (take m xs) = ap (λ n. take (n * w) out) (sym done) ∙ before ∙ ap (λ n. packed w (take (8 * n) xs)) index in
      let same_size : take (length out) all ≡ all = take_all (length out) all (long_all part size) in
      sym same_size
      ∙ take-put_mid (eights * w) (length out - eights * w) out part (length out) whole rest_inside
      ∙ (λ j. front j ++ is j)
      ∙ ap (λ r. packed w (take m xs) ++ packed w r) (is_rest ∙ ap (λ n. drop n xs) turned)
      ∙ sym (packed_append w (length xs / 8) (take m xs) (drop m xs) (All-take (λ x. x < 2 ^ w) m xs fit) (length-take-le m xs (omega arith)))
      ∙ ap (packed w) (take-append-drop m xs)
