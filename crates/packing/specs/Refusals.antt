-- What each outcome of packing and unpacking says of what was handed in, and which outcomes there are not.
use Rattle.std.specs.Prelude.{◌≡◌, ◌≢◌, ℕ, ◌^◌, List, length, Ok, Err, Result}
use Rattle.ring.specs.Elements.{FirstNotBelow}
use Rattle.ring.specs.declared.fault.Fault.{Fault}
use Rattle.ring.specs.declared.fault.Fault.TheVariants.{WrongLength, OutOfRange, SumTooLarge}
use Rattle.ring.specs.declared.fault.Fault.TheVariants.{CoinOutOfRange, SourceSpent}
use Rattle.ring.specs.declared.place.TheConstants.{BYTES, OUTPUT}
use Rattle.packing.specs.Lengths.{packed_length}
use Rattle.packing.specs.Packing.{AllFit, pack_outcome, pack_numbers_outcome, unpack_outcome}

-- packing numbers of w bits into so much room: the room is the list's length
abbrev pub PackMeans : (w : ℕ) → List ℕ → (room : ℕ) → Result (Unit {0}) Fault → Type 0
PackMeans w xs room (Ok _) = room ≡ packed_length (length xs) w
PackMeans w xs room (Err (WrongLength place)) = (room ≢ packed_length (length xs) w) × (place ≡ OUTPUT)
PackMeans w xs room (Err (OutOfRange i)) = ⊥
PackMeans w xs room (Err (SumTooLarge i)) = ⊥
PackMeans w xs room (Err (CoinOutOfRange i)) = ⊥
PackMeans w xs room (Err (SourceSpent i)) = ⊥

-- packing numbers that may have more than w bits: the room first, then each number
abbrev pub PackNumbersMeans : (w : ℕ) → List ℕ → (room : ℕ) → Result (Unit {0}) Fault → Type 0
PackNumbersMeans w xs room (Ok _) = (room ≡ packed_length (length xs) w) × AllFit w xs
PackNumbersMeans w xs room (Err (WrongLength place)) =
    (room ≢ packed_length (length xs) w) × (place ≡ OUTPUT)
PackNumbersMeans w xs room (Err (OutOfRange i)) =
    (room ≡ packed_length (length xs) w) × FirstNotBelow (2 ^ w) xs i
PackNumbersMeans w xs room (Err (SumTooLarge i)) = ⊥
PackNumbersMeans w xs room (Err (CoinOutOfRange i)) = ⊥
PackNumbersMeans w xs room (Err (SourceSpent i)) = ⊥

-- unpacking so many numbers: the bytes are theirs
abbrev pub UnpackMeans : (w : ℕ) → List ℕ → (many : ℕ) → Result (Unit {0}) Fault → Type 0
UnpackMeans w bytes many (Ok _) = length bytes ≡ packed_length many w
UnpackMeans w bytes many (Err (WrongLength place)) = (length bytes ≢ packed_length many w) × (place ≡ BYTES)
UnpackMeans w bytes many (Err (OutOfRange i)) = ⊥
UnpackMeans w bytes many (Err (SumTooLarge i)) = ⊥
UnpackMeans w bytes many (Err (CoinOutOfRange i)) = ⊥
UnpackMeans w bytes many (Err (SourceSpent i)) = ⊥

-- for numbers of w bits
pub record PackingRefusals (w : ℕ) : Type 0 where
  pub pack_means : (xs : List ℕ) (room : ℕ) → PackMeans w xs room (pack_outcome w xs room)
  pub pack_numbers_means :
      (xs : List ℕ) (room : ℕ) → PackNumbersMeans w xs room (pack_numbers_outcome w xs room)
  pub unpack_means : (bytes : List ℕ) (many : ℕ) → UnpackMeans w bytes many (unpack_outcome w bytes many)
  -- what is right is accepted
  pub packs : (xs : List ℕ) (room : ℕ) → room ≡ packed_length (length xs) w → pack_outcome w xs room ≡ Ok tt
  pub packs_numbers :
      (xs : List ℕ) (room : ℕ) → room ≡ packed_length (length xs) w → AllFit w xs →
      pack_numbers_outcome w xs room ≡ Ok tt
  pub unpacks :
      (bytes : List ℕ) (many : ℕ) → length bytes ≡ packed_length many w → unpack_outcome w bytes many ≡ Ok tt

-- for every width
abbrev pub PackingRefusesTheFirst : Type 0
PackingRefusesTheFirst = (w : ℕ) → PackingRefusals w
