-- The shape of a message: which sections there are, how long they are and where they begin, and where a
-- message is first otherwise.
use Rattle.std.specs.Prelude.{◌≡◌, ℕ, zero, suc, ◌+◌, ◌≤◌, ◌&&◌, ◌==◌, Bool, nat_le, if◌then◌else◌}
use Rattle.std.specs.Prelude.{List, [], ◌∷◌, length, slice_index, Some, None, Option}
use Rattle.std.specs.Borrow.{Bor}
use Rattle.std.specs.Option.{option_or}
use Rattle.message.specs.Lengths.{values_length, signals_length}
use Rattle.profile.specs.declared.numbers.Numbers.{Numbers}
use Rattle.packing.specs.Packing.{number}
use Rattle.message.specs.declared.fault.Fault.{Fault}
use Rattle.message.specs.declared.fault.Fault.TheVariants.{WrongShape}
use Rattle.message.specs.declared.fixed_lengths.TheConstants.{COUNT_LENGTH, HEAD_LENGTH}
use Rattle.profile.specs.declared.seed.TheConstants.{SEED_LENGTH}
use Rattle.message.specs.declared.kind.Kind.{Kind}
use Rattle.message.specs.declared.kind.Kind.TheVariants.{Offer, Answer, Confirmation}
use Rattle.message.specs.declared.section.Section.{Section}
use Rattle.message.specs.Sections.{stretch}

-- how many bytes each section has
abbrev pub layout : Numbers → Kind → List ℕ
layout k Offer = HEAD_LENGTH ∷ SEED_LENGTH ∷ values_length k ∷ []
layout k Answer = HEAD_LENGTH ∷ values_length k ∷ signals_length k ∷ []
layout k Confirmation = HEAD_LENGTH ∷ []

-- where the bytes of section i begin, in a row of sections that begins at an offset: each has its count
-- before it
abbrev pub offset_in : (at : ℕ) → List ℕ → (i : ℕ) → ℕ
offset_in at [] i = at
offset_in at (many ∷ rest) zero = at + COUNT_LENGTH
offset_in at (many ∷ rest) (suc i) = offset_in (at + COUNT_LENGTH + many) rest i

-- where section i of a message of a kind begins, and its bytes
abbrev pub offset : Numbers → Kind → (i : ℕ) → ℕ
offset k kind i = offset_in 0 (layout k kind) i

abbrev pub contents : Numbers → Kind → (i : ℕ) → List ℕ → List ℕ
contents k kind i message = stretch (offset k kind i) (slice_index (layout k kind) i) message

-- whether the two bytes from an offset on are there, and are this count
abbrev pub is_counted : (at many : ℕ) → List ℕ → Bool
is_counted at many message =
    nat_le (at + COUNT_LENGTH) (length message) && number 8 (stretch at COUNT_LENGTH message) == many

-- where the section whose count is at an offset is wrong: at the count, or where the bytes begin if they are
-- cut short
abbrev pub section_fault : (at many : ℕ) → List ℕ → Option Fault
section_fault at many message =
    let start = at + COUNT_LENGTH in
    if is_counted at many message
    then (if nat_le (start + many) (length message) then None else Some (WrongShape start))
    else Some (WrongShape at)

-- where a message first differs from a row of sections that begins at an offset: nothing comes after the
-- last section
abbrev pub shape_fault : (at : ℕ) → List ℕ → List ℕ → Option Fault
shape_fault at [] message = if nat_le (length message) at then None else Some (WrongShape at)
shape_fault at (many ∷ rest) message =
    option_or (section_fault at many message) (shape_fault (at + COUNT_LENGTH + many) rest message)

-- a section handed out is the very stretch of the message from an offset on, in the same memory
pub record IsStretch (message : Bor (List ℕ)) (section : Section) (at many : ℕ) : Type 0 where
  pub offset : section.offset ≡ at
  pub inside : at + many ≤ length message.now
  pub bytes : section.bytes.now ≡ stretch at many message.now
  pub same_memory : section.bytes.ref_ptr.0 ≡ message.ref_ptr.0
  pub place_in_memory : section.bytes.ref_ptr.1 ≡ message.ref_ptr.1 + at

-- sections handed out are those of a message of a kind, from the section of an index on to the last
abbrev pub AreSections : Numbers → Kind → (message : Bor (List ℕ)) (i : ℕ) → List Section → Type 0
AreSections k kind message i [] = i ≡ length (layout k kind)
AreSections k kind message i (section ∷ sections) =
    IsStretch message section (offset k kind i) (slice_index (layout k kind) i)
    × AreSections k kind message (suc i) sections
