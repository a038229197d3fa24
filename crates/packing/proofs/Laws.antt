-- The laws of packing.
use Rattle.std.proofs.Common.{◌≡◌, ℕ, ◌+◌, ◌*◌, ◌^◌, ◌<◌, ◌≤◌, List, length, sym, ap, ◌∙◌, arith}
use Rattle.std.specs.Int.{bit_at}
use Rattle.packing.specs.Lengths.{packed_length}
use Rattle.packing.specs.Packing.{number, digits, packed, unpacked, AllFit}
use Rattle.packing.specs.PackingLaws.{PackingIsLawful, PackingLaws, SpareClear, bit_of}
use Rattle.packing.proofs.Bits.{bit_of_digit, bit_of_digits, bit_after, bit_of_bytes, below_from_bits}
use Rattle.packing.proofs.Digits.{length-digits, digits_fit, number_below, number_digits, digits_number}
use Rattle.std.proofs.Math.Nat.{pow-le-pow_right}

module _ (w : ℕ) where
  -- the bytes are as many as the bits need
  room : (many : ℕ) → many * w ≤ packed_length many w * 8
  room many = omega arith

  pub number_of_packed : (xs : List ℕ) → AllFit w xs → number 8 (packed w xs) ≡ number w xs
  number_of_packed xs fit =
      let wide : 2 ^ (length xs * w) ≤ 2 ^ (packed_length (length xs) w * 8) = pow-le-pow_right (omega arith) (room (length xs)) in
      number_digits 8 (packed_length (length xs) w) (number w xs) (omega (arith, number_below w xs fit, wide))

  bits_packed : (xs : List ℕ) (j : ℕ) → AllFit w xs → bit_of (packed w xs) j ≡ bit_at (number w xs) j
  bits_packed xs j fit =
      bit_of_bytes (packed w xs) j (digits_fit 8 (packed_length (length xs) w) (number w xs)) ∙ ap (λ n. bit_at n j) (number_of_packed xs fit)

  pub unpacks_what_was_packed : (xs : List ℕ) → AllFit w xs → unpacked w (length xs) (packed w xs) ≡ xs
  unpacks_what_was_packed xs fit = ap (digits w (length xs)) (number_of_packed xs fit) ∙ digits_number w xs fit

  -- bytes without spare bits stand for a number of as many digits
  pub number_from_spare_clear : (many : ℕ) (bytes : List ℕ) → AllFit 8 bytes → SpareClear w many bytes → number 8 bytes < 2 ^ (many * w)
  number_from_spare_clear many bytes fit clear =
      below_from_bits (number 8 bytes) (many * w) (λ j after. sym (bit_of_bytes bytes j fit) ∙ clear j after)

  pub packs_below : (many : ℕ) (bytes : List ℕ) → AllFit 8 bytes → length bytes ≡ packed_length many w → number 8 bytes < 2 ^ (many * w) → packed w (unpacked w many bytes) ≡ bytes
  packs_below many bytes fit long below =
      let xs = unpacked w many bytes in
      let count : length xs ≡ many = length-digits w many (number 8 bytes) in
      let size : packed_length (length xs) w ≡ length bytes = ap (λ m. packed_length m w) count ∙ sym long in
      ap (λ m. digits 8 m (number w xs)) size
      ∙ ap (digits 8 (length bytes)) (number_digits w many (number 8 bytes) below)
      ∙ digits_number 8 bytes fit

  pub packs_what_was_unpacked : (many : ℕ) (bytes : List ℕ) → AllFit 8 bytes → length bytes ≡ packed_length many w → SpareClear w many bytes → packed w (unpacked w many bytes) ≡ bytes
  packs_what_was_unpacked many bytes fit long clear = packs_below many bytes fit long (number_from_spare_clear many bytes fit clear)

  laws : PackingLaws w
  laws = record {
    enough_bytes = room;
    no_byte_more = λ many. omega arith;
    in_place = λ xs i k fit inside low. bits_packed xs (i * w + k) fit ∙ bit_of_digit w xs i k fit inside low;
    spare_clear = λ xs fit j after. bits_packed xs j fit ∙ bit_after w xs j fit after;
    read_in_place = λ many bytes i k fit inside low. bit_of_digits w many (number 8 bytes) i k inside low ∙ sym (bit_of_bytes bytes (i * w + k) fit);
    unpacks_what_was_packed = unpacks_what_was_packed;
    packs_what_was_unpacked = packs_what_was_unpacked;
  }

pub packing_is_lawful : PackingIsLawful
packing_is_lawful w least most = laws w
