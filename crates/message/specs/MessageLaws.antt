-- What is proved of messages as such, of every profile's numbers.
use Rattle.std.specs.Prelude.{◌≡◌, ℕ, ◌+◌, ◌*◌, ◌/◌, ◌≤◌, List, length, Ok, Some, None}
use Rattle.profile.specs.Laws.{InRange}
use Rattle.profile.specs.declared.numbers.Numbers.{Numbers}
use Rattle.profile.specs.declared.seed.TheConstants.{SEED_LENGTH}
use Rattle.packing.specs.Lengths.{packed_length}
use Rattle.packing.specs.Packing.{AllFit}
use Rattle.packing.specs.PackingLaws.{SpareClear, bit_of}
use Rattle.message.specs.declared.fault.Fault.TheVariants.{SpareBit}
use Rattle.message.specs.declared.fixed_lengths.TheConstants.{COUNT_LENGTH, HEAD_LENGTH}
use Rattle.message.specs.declared.kind.Kind.{Kind}
use Rattle.message.specs.HexadecimalLines.{HexadecimalLineTakesItsLength}
use Rattle.message.specs.Messages.{Message, HasLawfulParts, IsRound, encoded, kind_of, round_of}
use Rattle.message.specs.Reading.{reading, spare_bit_fault}
use Rattle.message.specs.ReadingLaws.{ReadingRefusesTheFirst, TellsWrongHeads, TellsWrongShapes}
use Rattle.message.specs.Writing.{message_length, write_outcome}
use Rattle.message.specs.WritingLaws.{WritingAcceptsWhatFits, WritingRefusesTheFirst}

-- a written message reads back to its parts
abbrev pub ReadsBack : Numbers → Type 0
ReadsBack k = (m : Message) → HasLawfulParts k m → reading k (kind_of m) (encoded k m) ≡ Ok m

-- an accepted message is what its parts are written as
pub record WrittenFrom (k : Numbers) (kind : Kind) (bytes : List ℕ) (m : Message) : Type 0 where
  pub same_kind : kind_of m ≡ kind
  pub lawful : HasLawfulParts k m
  pub same_bytes : encoded k m ≡ bytes

abbrev pub IsWrittenFromItsParts : Numbers → Type 0
IsWrittenFromItsParts k =
    (kind : Kind) (bytes : List ℕ) (m : Message) → AllFit 8 bytes → reading k kind bytes ≡ Ok m
    → WrittenFrom k kind bytes m

-- messages with the same bytes are of one kind, one profile and one round
pub record Alike (k l : Numbers) (m o : Message) : Type 0 where
  pub kind : kind_of m ≡ kind_of o
  pub numbers_byte : k.numbers_byte ≡ l.numbers_byte
  pub reconciler_byte : k.reconciler_byte ≡ l.reconciler_byte
  pub round : round_of m ≡ round_of o

abbrev pub TellsKindProfileAndRound : Type 0
TellsKindProfileAndRound =
    (k l : Numbers) (m o : Message) → IsRound (round_of m) → IsRound (round_of o) → encoded k m ≡ encoded l o
    → Alike k l m o

-- the spare bits of n numbers of w bits in bytes at an offset: none is set where there is no fault, and else
-- the fault is at the byte of each that is set
pub record TellsSpareBits (n w at : ℕ) (bytes : List ℕ) : Type 0 where
  pub none_is_set : spare_bit_fault n w at (packed_length n w) bytes ≡ None → SpareClear w n bytes
  pub none_is_refused : SpareClear w n bytes → spare_bit_fault n w at (packed_length n w) bytes ≡ None
  pub at_its_byte :
      (j : ℕ) → n * w ≤ j → (bit_of bytes j ≡ 0 → ⊥) →
      spare_bit_fault n w at (packed_length n w) bytes ≡ Some (SpareBit (at + j / 8))

-- lawful parts are written, as bytes, and as many of them as a message of the kind has
pub record WritesLawfulParts (k : Numbers) (m : Message) : Type 0 where
  pub length : length (encoded k m) ≡ message_length k (kind_of m)
  pub is_bytes : AllFit 8 (encoded k m)
  pub accepted : write_outcome k m (message_length k (kind_of m)) ≡ Ok tt

-- the lengths that no profile changes
pub record FixedLengths : Type 0 where
  pub count : COUNT_LENGTH ≡ 2
  pub head : HEAD_LENGTH ≡ 7
  pub seed : SEED_LENGTH ≡ 16

pub record MessageLaws : Type 0 where
  pub fixed_lengths : FixedLengths
  pub writes_lawful_parts :
      (k : Numbers) → InRange k → (m : Message) → HasLawfulParts k m → WritesLawfulParts k m
  pub reads_back : (k : Numbers) → InRange k → ReadsBack k
  pub is_written_from_its_parts : (k : Numbers) → InRange k → IsWrittenFromItsParts k
  pub tells_kind_profile_and_round : TellsKindProfileAndRound
  pub writing_refuses_the_first : WritingRefusesTheFirst
  pub writing_accepts_what_fits : WritingAcceptsWhatFits
  pub line_takes_its_length : HexadecimalLineTakesItsLength
  pub reading_refuses_the_first : ReadingRefusesTheFirst
  pub tells_wrong_shapes : TellsWrongShapes
  pub tells_wrong_heads : TellsWrongHeads
  pub tells_spare_bits :
      (n w at : ℕ) (bytes : List ℕ) → AllFit 8 bytes → length bytes ≡ packed_length n w →
      TellsSpareBits n w at bytes
