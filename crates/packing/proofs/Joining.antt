-- Up to eight numbers as the digits of one number of 128 bits, four by four.
use Rattle.std.proofs.Common.{◌≡◌, ℕ, ◌+◌, ◌*◌, ◌%◌, ◌^◌, ◌<◌, ◌≤◌, List, [], ◌∷◌, ◌++◌, length, get_or, take, drop, min, sym, ap, ◌∙◌, ⊎_elim, arith}
use Rattle.std.proofs.Math.Nat.{mul_comm, zero-mul, pow-le-pow_right}
use Rattle.std.proofs.lemmas.List.{take_more, length-take, length-take-le, length-drop, take-append-drop, nil_from_length}
use Rattle.std.proofs.lemmas.Bool.{cases_lt}
use Rattle.std.proofs.lemmas.List.Elements.{All-take, All-drop, All-same}
use Rattle.std.proofs.lemmas.Nat.{mul-le, shl_whole}
use Rattle.packing.specs.Packing.{AllFit, number}
use Rattle.packing.proofs.Digits.{number_append, number_below}

-- one digit more
pub number_more : (w : ℕ) (xs : List ℕ) (i : ℕ) → i < length xs → number w (take (i + 1) xs) ≡ number w (take i xs) + get_or xs i 0 * 2 ^ (i * w)
number_more w xs i inside =
    let x = get_or xs i 0 in
    let long : length (take i xs) ≡ i = length-take-le i xs (omega arith) in
    let one : number w (x ∷ []) ≡ x = omega arith in
    ap (number w) (take_more xs i 0 inside)
    ∙ number_append w (take i xs) (x ∷ [])
    ∙ (λ j. number w (take i xs) + 2 ^ (long j * w) * one j)
    ∙ ap (λ z. number w (take i xs) + z) (mul_comm (2 ^ (i * w)) x)

-- digit by digit
module _ (w : ℕ) (xs : List ℕ) (i sum x : ℕ) (narrow : w ≤ 16) (few : length xs ≤ 4) (fit : AllFit w xs) (inside : i < length xs) (so_far : sum ≡ number w (take i xs)) (is : x ≡ get_or xs i 0) where
  pub joined_more : sum + x * 2 ^ (i * w) % 2 ^ 64 ≡ number w (take (i + 1) xs)
  joined_more =
      let room : (i + 1) * w ≤ 4 * 16 = mul-le (i + 1) w 4 16 (omega arith) narrow in
      let below : x < 2 ^ w = rw is (fit i 0 inside) in
      let whole : x * 2 ^ (i * w) % 2 ^ 64 ≡ x * 2 ^ (i * w) = shl_whole x w (i * w) 64 below (omega (arith, room)) in
      (λ j. so_far j + whole j) ∙ ap (λ d. number w (take i xs) + d * 2 ^ (i * w)) is ∙ sym (number_more w xs i inside)

  pub joined_fits : sum + x * 2 ^ (i * w) % 2 ^ 64 < 2 ^ 64
  joined_fits =
      let room : (i + 1) * w ≤ 4 * 16 = mul-le (i + 1) w 4 16 (omega arith) narrow in
      let long : length (take (i + 1) xs) ≡ i + 1 = length-take-le (i + 1) xs (omega arith) in
      let below : number w (take (i + 1) xs) < 2 ^ (length (take (i + 1) xs) * w) = number_below w (take (i + 1) xs) (All-take (λ d. d < 2 ^ w) (i + 1) xs fit) in
      let bits : length (take (i + 1) xs) * w ≤ 64 = omega (arith, room, ap (λ m. m * w) long) in
      let most : 2 ^ (length (take (i + 1) xs) * w) ≤ 2 ^ 64 = pow-le-pow_right (omega arith) bits in
      omega (arith, joined_more, below, most)

-- and the two halves
module _ (w : ℕ) (xs low high : List ℕ) (narrow : w ≤ 16) (few : length xs ≤ 8) (fit : AllFit w xs) (front : low ≡ take (min (length xs) 4) xs) (back : high ≡ drop (min (length xs) 4) xs) where
  pub low_few : length low ≤ 4
  low_few = omega (arith, ap length front, length-take (min (length xs) 4) xs)

  pub high_few : length high ≤ 4
  high_few = omega (arith, ap length back, length-drop (min (length xs) 4) xs)

  pub low_fits : AllFit w low
  low_fits = All-same (λ d. d < 2 ^ w) _ _ front (All-take (λ d. d < 2 ^ w) (min (length xs) 4) xs fit)

  pub high_fits : AllFit w high
  high_fits = All-same (λ d. d < 2 ^ w) _ _ back (All-drop (λ d. d < 2 ^ w) (min (length xs) 4) xs fit)

  -- what the upper half is worth: nothing is there unless the lower half is full
  worth_of_high : 2 ^ (length low * w) * number w high ≡ number w high * 2 ^ (4 * w)
  worth_of_high =
      ⊎_elim
      (λ (less : length xs < 4).
      let none : high ≡ [] = nil_from_length high (omega (arith, ap length back, length-drop (min (length xs) 4) xs)) in
      ap (λ h. 2 ^ (length low * w) * number w h) none ∙ mul_comm (2 ^ (length low * w)) 0 ∙ zero-mul (2 ^ (length low * w)) ∙ sym (zero-mul (2 ^ (4 * w))) ∙ ap (λ h. number w h * 2 ^ (4 * w)) (sym none))
      (λ (full : 4 ≤ length xs).
      let long : length low ≡ 4 = omega (arith, ap length front, length-take (min (length xs) 4) xs) in
      ap (λ n. 2 ^ (n * w) * number w high) long ∙ mul_comm (2 ^ (4 * w)) (number w high))
      (cases_lt (length xs) 4)

  whole_high : number w high * 2 ^ (4 * w) % 2 ^ 128 ≡ number w high * 2 ^ (4 * w)
  whole_high =
      let bits : length high * w ≤ 4 * 16 = mul-le (length high) w 4 16 high_few narrow in
      let below : number w high < 2 ^ (length high * w) = number_below w high high_fits in
      shl_whole (number w high) (length high * w) (4 * w) 128 below (omega (arith, bits))

  pub halves_joined : number w low + number w high * 2 ^ (4 * w) % 2 ^ 128 ≡ number w xs
  halves_joined =
      ap (λ h. number w low + h) (whole_high ∙ sym worth_of_high)
      ∙ sym (number_append w low high)
      ∙ ap (number w) ((λ j. front j ++ back j) ∙ take-append-drop (min (length xs) 4) xs)

  pub halves_fit : number w low + number w high * 2 ^ (4 * w) % 2 ^ 128 < 2 ^ 128
  halves_fit =
      let bits : length xs * w ≤ 8 * 16 = mul-le (length xs) w 8 16 few narrow in
      let most : 2 ^ (length xs * w) ≤ 2 ^ 128 = pow-le-pow_right (omega arith) bits in
      omega (arith, halves_joined, number_below w xs fit, most)
