-- Bits after those of so many numbers: they are in the last byte.
use Rattle.std.proofs.Common.{◌≡◌, ℕ, ◌+◌, ◌-◌, ◌*◌, ◌/◌, ◌^◌, ◌<◌, ◌≤◌, List, length, get_or, take, sym, ap, ◌∙◌, Some, None, Option, arith}
use Rattle.std.proofs.Math.Nat.{mul-le-mul_right, add-mul, one-mul}
use Rattle.std.proofs.lemmas.Bool.{cond-true, cond-false, lt-ltb, le-ltb}
use Rattle.std.proofs.lemmas.List.{length-take-le, take_all}
use Rattle.std.proofs.lemmas.List.Elements.{All-take}
use Rattle.std.proofs.lemmas.Nat.{pow-add, pow_pos, shr_split, mod_below}
use Rattle.packing.specs.Lengths.{packed_length}
use Rattle.profile.specs.Laws.{InRange}
use Rattle.profile.specs.declared.numbers.Numbers.{Numbers}
use Rattle.packing.specs.Packing.{number, AllFit}
use Rattle.packing.proofs.Digits.{number_below}
use Rattle.packing.proofs.Joining.{number_more}
use Rattle.message.specs.declared.fault.Fault.{Fault}
use Rattle.message.specs.declared.fault.Fault.TheVariants.{SpareBit}
use Rattle.message.specs.Reading.{spare_bit_fault}

-- numbers that have bits take bytes
pub signals_least : (k : Numbers) → InRange k → 1 ≤ packed_length k.n k.signal_width
signals_least k range =
    let n_least : 1 ≤ k.n = omega (arith, range.n_power.3, pow_pos range.n_power.0) in
    let bits : 1 * k.signal_width ≤ k.n * k.signal_width = mul-le-mul_right k.signal_width n_least in
    omega (arith, bits, one-mul k.signal_width, range.width_least)

-- where the last byte has `used` bits of the numbers, 8 or fewer
module _ (n w at last used : ℕ) (bytes : List ℕ) (fit : AllFit 8 bytes) (is_last : length bytes ≡ last + 1) (long : length bytes ≡ packed_length n w) (bits : n * w ≡ used + last * 8) where
  front : number 8 (take last bytes) < 2 ^ (last * 8)
  front =
      let size : length (take last bytes) ≡ last = length-take-le last bytes (omega arith) in
      let below : number 8 (take last bytes) < 2 ^ (length (take last bytes) * 8) = number_below 8 (take last bytes) (All-take (λ b. b < 2 ^ 8) last bytes fit) in
      rw (ap (λ m. 2 ^ (m * 8)) (sym size)) below

  whole : number 8 bytes ≡ number 8 (take last bytes) + get_or bytes last 0 * 2 ^ (last * 8)
  whole =
      let all : take (last + 1) bytes ≡ bytes = take_all (last + 1) bytes (omega arith) in
      ap (number 8) (sym all) ∙ number_more 8 bytes last (omega arith)

  limit : 2 ^ (n * w) ≡ 2 ^ used * 2 ^ (last * 8)
  limit = ap (λ e. 2 ^ e) bits ∙ pow-add 2 used (last * 8)

  spare_set : 0 < get_or bytes last 0 / 2 ^ used → ◌≡◌ {A = Option Fault} (Some (SpareBit (at + last))) (spare_bit_fault n w at (packed_length n w) bytes)
  spare_set high =
      let byte = get_or bytes last 0 in
      let most : 1 * 2 ^ used ≤ byte / 2 ^ used * 2 ^ used = mul-le-mul_right (2 ^ used) high in
      let reaches : 2 ^ used * 2 ^ (last * 8) ≤ byte * 2 ^ (last * 8) = mul-le-mul_right (2 ^ (last * 8)) (omega (arith, most, one-mul (2 ^ used), shr_split byte used)) in
      let place : at + last ≡ at + packed_length n w - 1 = omega arith in
      ap (λ p. Some (SpareBit p)) place ∙ sym (cond-false _ _ _ (le-ltb (number 8 bytes) (2 ^ (n * w)) (omega (arith, limit, whole, reaches))))

  spare_clear : get_or bytes last 0 / 2 ^ used ≤ 0 → ◌≡◌ {A = Option Fault} None (spare_bit_fault n w at (packed_length n w) bytes)
  spare_clear low =
      let byte = get_or bytes last 0 in
      let X = 2 ^ (last * 8) in
      let none : byte / 2 ^ used ≡ 0 = omega arith in
      let small : byte < 2 ^ used = omega (arith, ap (λ h. h * 2 ^ used) none, shr_split byte used, mod_below byte (2 ^ used) (pow_pos used)) in
      let most : (byte + 1) * X ≤ 2 ^ used * X = mul-le-mul_right X (omega arith) in
      sym (cond-true _ _ _ (lt-ltb (number 8 bytes) (2 ^ (n * w)) (omega (arith, limit, whole, front, most, add-mul byte 1 X, one-mul X))))

-- the same of a profile's signals, which have so many bits
module _ (k : Numbers) (range : InRange k) (at many : ℕ) (bytes : List ℕ) (fit : AllFit 8 bytes) (long : length bytes ≡ packed_length k.n k.signal_width) (is : many ≡ k.n * k.signal_width) where
  abbrev last : ℕ
  last = length bytes - 1

  abbrev used : ℕ
  used = many - 8 * last

  is_last : length bytes ≡ last + 1
  is_last = omega (arith, signals_least k range)

  bits : k.n * k.signal_width ≡ used + last * 8
  bits = omega (arith, signals_least k range)

  pub signal_spare_set : 0 < get_or bytes last 0 / 2 ^ used → ◌≡◌ {A = Option Fault} (Some (SpareBit (at + last))) (spare_bit_fault k.n k.signal_width at (packed_length k.n k.signal_width) bytes)
  signal_spare_set = spare_set k.n k.signal_width at last used bytes fit is_last long bits

  pub signal_spare_clear : get_or bytes last 0 / 2 ^ used ≤ 0 → ◌≡◌ {A = Option Fault} None (spare_bit_fault k.n k.signal_width at (packed_length k.n k.signal_width) bytes)
  signal_spare_clear = spare_clear k.n k.signal_width at last used bytes fit is_last long bits
