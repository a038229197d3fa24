-- Where bytes are not a message of a kind, and what each outcome of reading says of this.
use Rattle.std.specs.Prelude.{◌≡◌, ◌≢◌, ℕ, ◌+◌, ◌*◌, ◌/◌, ◌<◌, ◌≤◌, ◌⊎◌, List, [], ◌∷◌, length, slice_index}
use Rattle.std.specs.Prelude.{Ok, Err, Result, Some, None, Option}
use Rattle.profile.specs.declared.numbers.Numbers.{Numbers}
use Rattle.packing.specs.Packing.{AllFit, number}
use Rattle.packing.specs.PackingLaws.{bit_of}
use Rattle.message.specs.declared.fault.Fault.{Fault}
use Rattle.message.specs.declared.fault.Fault.TheVariants.{WrongShape, WrongHead, SpareBit}
use Rattle.message.specs.declared.fixed_lengths.TheConstants.{COUNT_LENGTH}
use Rattle.message.specs.declared.kind.Kind.{Kind}
use Rattle.message.specs.declared.kind.Kind.TheVariants.{Offer, Answer, Confirmation}
use Rattle.message.specs.Messages.{Message, head}
use Rattle.message.specs.Reading.{head_fault, parts, reading}
use Rattle.message.specs.Sections.{stretch}
use Rattle.message.specs.Shapes.{contents, layout, offset, shape_fault}

-- ---- places

-- no place is wrong
abbrev pub Nowhere : (ℕ → Type 0) → Type 0
Nowhere Wrong = (place : ℕ) → Wrong place → ⊥

-- a place is the least that is wrong
pub record FirstAt (Wrong : ℕ → Type 0) (place : ℕ) : Type 0 where
  pub here : Wrong place
  pub none_sooner : (sooner : ℕ) → sooner < place → Wrong sooner → ⊥

-- what a test's fault means: there is none where no place is wrong, and else it names the first that is
abbrev pub FaultMeans : (fault_at : ℕ → Fault) → (ℕ → Type 0) → Option Fault → Type 0
FaultMeans fault_at Wrong None = Nowhere Wrong
FaultMeans fault_at Wrong (Some fault) = (place : ℕ) × (fault ≡ fault_at place) × FirstAt Wrong place

-- ---- where bytes are not a message

-- the two bytes from an offset on are there, and are this count
pub record HasCount (at many : ℕ) (message : List ℕ) : Type 0 where
  pub there : at + COUNT_LENGTH ≤ length message
  pub count : number 8 (stretch at COUNT_LENGTH message) ≡ many

-- the places at which a message is not a row of sections that begins at an offset: a count that is missing
-- or wrong, the start of contents that are cut short, the first byte after the last section
abbrev pub ShapeIsWrongAt : (at : ℕ) → List ℕ → List ℕ → ℕ → Type 0
ShapeIsWrongAt at [] message place = (place ≡ at) × (at < length message)
ShapeIsWrongAt at (many ∷ rest) message place =
    ((place ≡ at) × (HasCount at many message → ⊥))
    ⊎ ((place ≡ at + COUNT_LENGTH) × (length message < at + COUNT_LENGTH + many))
    ⊎ ShapeIsWrongAt (at + COUNT_LENGTH + many) rest message place

-- the places of the head's first three bytes that are not those of the kind and the profile
abbrev pub HeadIsWrongAt : Numbers → Kind → List ℕ → ℕ → Type 0
HeadIsWrongAt k kind h place =
    (i : ℕ) × (i < 3) × (place ≡ COUNT_LENGTH + i) × (slice_index h i ≢ slice_index (head k kind 0) i)

-- the places of the bytes that have a bit set after those of n numbers of w bits, in bytes from an offset on
abbrev pub SpareBitIsSetAt : (n w at : ℕ) → List ℕ → ℕ → Type 0
SpareBitIsSetAt n w at bytes place = (j : ℕ) × (n * w ≤ j) × (bit_of bytes j ≢ 0) × (place ≡ at + j / 8)

-- each test alone
abbrev pub TellsWrongShapes : Type 0
TellsWrongShapes =
    (at : ℕ) (layout message : List ℕ)
    → FaultMeans WrongShape (ShapeIsWrongAt at layout message) (shape_fault at layout message)

abbrev pub TellsWrongHeads : Type 0
TellsWrongHeads =
    (k : Numbers) (kind : Kind) (h : List ℕ)
    → FaultMeans WrongHead (HeadIsWrongAt k kind h) (head_fault k kind h)

-- ---- where bytes are not a message of a kind, by the faults that name the places

abbrev pub WrongShapeAt : Numbers → Kind → List ℕ → ℕ → Type 0
WrongShapeAt k kind message = ShapeIsWrongAt 0 (layout k kind) message

abbrev pub WrongHeadAt : Numbers → Kind → List ℕ → ℕ → Type 0
WrongHeadAt k kind message = HeadIsWrongAt k kind (contents k kind 0 message)

-- only the signals of an answer have spare bits
abbrev pub SpareBitAt : Numbers → Kind → List ℕ → ℕ → Type 0
SpareBitAt k Offer message place = ⊥
SpareBitAt k Answer message place =
    SpareBitIsSetAt k.n k.signal_width (offset k Answer 2) (contents k Answer 2 message) place
SpareBitAt k Confirmation message place = ⊥

-- what each outcome says of the bytes: that they are a message of the kind, and its parts, or where they
-- first are not, by shape, then head, then spare bits
abbrev pub ReadingMeans : Numbers → Kind → (message : List ℕ) → Result Message Fault → Type 0
ReadingMeans k kind message (Ok m) =
    Nowhere (WrongShapeAt k kind message)
    × Nowhere (WrongHeadAt k kind message)
    × Nowhere (SpareBitAt k kind message)
    × (m ≡ parts k kind message)
ReadingMeans k kind message (Err (WrongShape place)) = FirstAt (WrongShapeAt k kind message) place
ReadingMeans k kind message (Err (WrongHead place)) =
    Nowhere (WrongShapeAt k kind message) × FirstAt (WrongHeadAt k kind message) place
ReadingMeans k kind message (Err (SpareBit place)) =
    Nowhere (WrongShapeAt k kind message)
    × Nowhere (WrongHeadAt k kind message)
    × FirstAt (SpareBitAt k kind message) place

-- every list of bytes, read as a message of any kind of any profile
abbrev pub ReadingRefusesTheFirst : Type 0
ReadingRefusesTheFirst =
    (k : Numbers) (kind : Kind) (message : List ℕ) → AllFit 8 message
    → ReadingMeans k kind message (reading k kind message)
