-- Unpacking eight numbers at a time.
use Rattle.std.proofs.Common.{◌≡◌, ℕ, ◌+◌, ◌-◌, ◌*◌, ◌/◌, ◌%◌, ◌^◌, ◌<◌, ◌≤◌, List, ◌++◌, length, take, drop, sym, ap, ◌∙◌, arith, rules}
use Rattle.std.proofs.Math.Nat.{add-mul, add-mul-div_left, div-eq_of_lt, mul_comm, mul_assoc, mul-le-mul_right, zero-add}
use Rattle.std.proofs.Math.Seq.{take-add}
use Rattle.std.proofs.lemmas.List.{length-take-le, take_all, take_rest, take-append-drop, places}
use Rattle.std.proofs.lemmas.List.Elements.{All-take}
use Rattle.std.proofs.lemmas.Nat.{pow_pos}
use Rattle.std.proofs.lemmas.Slice.{take-put_mid}
use borrow.Rule.Slice.PartMut.{put_mid}
use Rattle.packing.specs.Lengths.{packed_length}
use Rattle.packing.specs.Packing.{number, digits, unpacked, AllFit}
use Rattle.packing.proofs.Digits.{length-digits, digits_append, digits_below, number_append, number_below}
use Rattle.packing.proofs.PackedLengths.{by_eights}

pub length_of_eight : (i : ℕ) (numbers : List ℕ) → 8 * i + 8 ≤ length numbers → length (take (8 * (i + 1) - 8 * i) (drop (8 * i) numbers)) ≡ 8
length_of_eight i numbers within = search (rules, places)

pub length_of_rest : (start : ℕ) (numbers : List ℕ) → length (take (length numbers - start) (drop start numbers)) ≡ length numbers - start
length_of_rest start numbers = search (rules, places)

-- the numbers of i eights are in the first i w bytes
pub unpacked_append : (w i k : ℕ) (front back : List ℕ) → AllFit 8 front → length front ≡ i * w → unpacked w (8 * i + k) (front ++ back) ≡ unpacked w (8 * i) front ++ unpacked w k back
unpacked_append w i k front back fit long =
    let a = number 8 front in
    let b = number 8 back in
    let bits : length front * 8 ≡ 8 * i * w = ap (λ n. n * 8) long ∙ mul_comm (i * w) 8 ∙ sym (mul_assoc 8 i w) in
    let below : a < 2 ^ (8 * i * w) = rw (sym bits) (number_below 8 front fit) in
    let high : (a + 2 ^ (8 * i * w) * b) / 2 ^ (8 * i * w) ≡ b = add-mul-div_left a b (pow_pos (8 * i * w)) ∙ ap (λ z. z + b) (div-eq_of_lt below) ∙ zero-add b in
    ap (digits w (8 * i + k)) (number_append 8 front back)
    ∙ ap (λ e. digits w (8 * i + k) (a + 2 ^ e * b)) bits
    ∙ digits_append w (8 * i) k (a + 2 ^ (8 * i * w) * b)
    ∙ (λ j. digits_below w (8 * i) a b j ++ digits w k (high j))

module _ (w many : ℕ) (bytes : List ℕ) (i : ℕ) (fit : AllFit 8 bytes) (long : length bytes ≡ packed_length many w) (inside : i < many / 8) where
  pub eight_inside : (i + 1) * w ≤ length bytes
  eight_inside = omega (arith, by_eights many w, mul-le-mul_right {m = i + 1} {n = many / 8} w (omega arith))

  pub eight_room : (i + 1) * w - i * w ≡ packed_length 8 w
  eight_room = omega (arith, add-mul i 1 w)

  pub eights_more : (numbers part : List ℕ) (n : ℕ) → n ≡ 8 → 8 * i ≤ length numbers → part ≡ unpacked w n (take ((i + 1) * w - i * w) (drop (i * w) bytes)) → take (8 * i) numbers ≡ unpacked w (8 * i) (take (i * w) bytes) → take (8 * (i + 1)) (put_mid (8 * i) (8 * (i + 1) - 8 * i) numbers part) ≡ unpacked w (8 * (i + 1)) (take ((i + 1) * w) bytes)
  eights_more numbers part n whole within was before =
      let chunk = take ((i + 1) * w - i * w) (drop (i * w) bytes) in
      let is : part ≡ unpacked w 8 chunk = was ∙ ap (λ m. unpacked w m chunk) whole in
      let width : (i + 1) * w - i * w ≡ w = omega (arith, add-mul i 1 w) in
      let next : i * w + w ≡ (i + 1) * w = omega (arith, add-mul i 1 w) in
      let eight : 8 * i + 8 ≡ 8 * (i + 1) = omega arith in
      let size : length part ≡ 8 = ap length is ∙ length-digits w 8 (number 8 chunk) in
      let front : length (take (i * w) bytes) ≡ i * w = length-take-le (i * w) bytes (omega (arith, eight_inside, add-mul i 1 w)) in
      let joined : take ((i + 1) * w) bytes ≡ take (i * w) bytes ++ chunk = ap (λ m. take m bytes) (sym next) ∙ take-add (i * w) w bytes ∙ ap (λ m. take (i * w) bytes ++ take m (drop (i * w) bytes)) (sym width) in
      take-put_mid (8 * i) (8 * (i + 1) - 8 * i) numbers part (8 * (i + 1)) (omega (arith, size)) within
      ∙ (λ j. before j ++ is j)
      ∙ sym (unpacked_append w i 8 (take (i * w) bytes) chunk (All-take (λ b. b < 2 ^ 8) (i * w) bytes fit) front)
      ∙ (λ j. unpacked w (eight j) (sym joined j))

-- what comes after the last whole eight
module _ (w many : ℕ) (numbers bytes : List ℕ) (eights : ℕ) (fit : AllFit 8 bytes) (count : eights ≡ many / 8) (room : length numbers ≡ many) (long : length bytes ≡ packed_length many w) where
  start : eights * w ≡ many / 8 * w
  start = ap (λ n. n * w) count

  pub rest_inside : eights * w ≤ length bytes
  rest_inside = omega (arith, by_eights many w, start)

  pub rest_room : length bytes - eights * w ≡ packed_length (length numbers - 8 * eights) w
  rest_room =
      let left : length numbers - 8 * eights ≡ many % 8 = omega arith in
      omega (arith, by_eights many w, start, ap (λ n. n * w) left)

  long_all : (part : List ℕ) → length part ≡ length numbers - 8 * eights → length (put_mid (8 * eights) (length numbers - 8 * eights) numbers part) ≤ length numbers
  long_all part size = search (rules, places)

  pub all_unpacked : (i : ℕ) (part : List ℕ) (n : ℕ) → i ≡ eights → n ≡ length numbers - 8 * eights → part ≡ unpacked w n (take (length bytes - eights * w) (drop (eights * w) bytes)) → take (8 * i) numbers ≡ unpacked w (8 * i) (take (i * w) bytes) → put_mid (8 * eights) (length numbers - 8 * eights) numbers part ≡ unpacked w many bytes
  all_unpacked i part n done left was before =
      let k = length numbers - 8 * eights in
      let last : take (length bytes - eights * w) (drop (eights * w) bytes) ≡ drop (eights * w) bytes = take_rest bytes (eights * w) in
      let is : part ≡ unpacked w k (drop (eights * w) bytes) = was ∙ (λ j. unpacked w (left j) (last j)) in
      let size : length part ≡ k = ap length is ∙ length-digits w k (number 8 (drop (eights * w) bytes)) in
      let whole : length numbers ≡ 8 * eights + length part = omega (arith, size) in
      let all = put_mid (8 * eights) k numbers part in
      let front : take (8 * eights) numbers ≡ unpacked w (8 * eights) (take (eights * w) bytes) = ap (λ n. take (8 * n) numbers) (sym done) ∙ before ∙ ap (λ n. unpacked w (8 * n) (take (n * w) bytes)) done in
      let count_all : 8 * eights + k ≡ length numbers = omega arith in
      let same_size : take (length numbers) all ≡ all = take_all (length numbers) all (long_all part size) in
      sym same_size
      ∙ take-put_mid (8 * eights) k numbers part (length numbers) whole (omega arith)
      ∙ (λ j. front j ++ is j)
      ∙ sym (unpacked_append w eights k (take (eights * w) bytes) (drop (eights * w) bytes) (All-take (λ b. b < 2 ^ 8) (eights * w) bytes fit) (length-take-le (eights * w) bytes rest_inside))
      ∙ (λ j. unpacked w (count_all j) (take-append-drop (eights * w) bytes j))
      ∙ ap (λ n. unpacked w n bytes) room
