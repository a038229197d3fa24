-- What packing is, bit by bit, and how it and unpacking undo each other.
use Rattle.std.specs.Prelude.{◌≡◌, ℕ, ◌+◌, ◌*◌, ◌/◌, ◌%◌, ◌<◌, ◌≤◌, List, length, slice_index}
use Rattle.std.specs.Int.{bit_at}
use Rattle.packing.specs.Lengths.{packed_length}
use Rattle.packing.specs.Packing.{AllFit, packed, unpacked}

-- bit j of bytes: each has eight of them, the low bit first
abbrev pub bit_of : List ℕ → ℕ → ℕ
bit_of bytes j = bit_at (slice_index bytes (j / 8)) (j % 8)

-- the bits of bytes after those of so many numbers of w bits are zero
abbrev pub SpareClear : (w many : ℕ) → List ℕ → Type 0
SpareClear w many bytes = (j : ℕ) → many * w ≤ j → bit_of bytes j ≡ 0

-- for numbers of w bits
pub record PackingLaws (w : ℕ) : Type 0 where
  -- as many bytes as the bits need, and no byte more
  pub enough_bytes : (many : ℕ) → many * w ≤ packed_length many w * 8
  pub no_byte_more : (many : ℕ) → packed_length many w * 8 < many * w + 8
  -- number i is at the bits i w .. i w + w - 1
  pub in_place :
      (xs : List ℕ) (i k : ℕ) → AllFit w xs → i < length xs → k < w →
      bit_of (packed w xs) (i * w + k) ≡ bit_at (slice_index xs i) k
  -- and nothing is after them
  pub spare_clear : (xs : List ℕ) → AllFit w xs → SpareClear w (length xs) (packed w xs)
  -- unpacking takes number i from these bits, of whatever bytes
  pub read_in_place :
      (many : ℕ) (bytes : List ℕ) (i k : ℕ) → AllFit 8 bytes → i < many → k < w →
      bit_at (slice_index (unpacked w many bytes) i) k ≡ bit_of bytes (i * w + k)
  pub unpacks_what_was_packed : (xs : List ℕ) → AllFit w xs → unpacked w (length xs) (packed w xs) ≡ xs
  pub packs_what_was_unpacked :
      (many : ℕ) (bytes : List ℕ) →
      AllFit 8 bytes → length bytes ≡ packed_length many w → SpareClear w many bytes →
      packed w (unpacked w many bytes) ≡ bytes

-- for every width
abbrev pub PackingIsLawful : Type 0
PackingIsLawful = (w : ℕ) → 1 ≤ w → w ≤ 16 → PackingLaws w
