-- Reading a message: what parts it has, and where it is refused.
use Rattle.std.specs.Prelude.{ℕ, ◌+◌, ◌-◌, ◌*◌, ◌^◌, ◌==◌, List, Result, Some, None, Option}
use Rattle.std.specs.Prelude.{drop, slice_index, nat_lt, if◌then◌else◌}
use Rattle.std.specs.Option.{option_or}
use Rattle.message.specs.Lengths.{signals_length}
use Rattle.profile.specs.declared.numbers.Numbers.{Numbers}
use Rattle.packing.specs.Packing.{number, unpacked}
use Rattle.ring.specs.Faults.{unless}
use Rattle.message.specs.declared.fault.Fault.{Fault}
use Rattle.message.specs.declared.fault.Fault.TheVariants.{WrongHead, SpareBit}
use Rattle.message.specs.declared.fixed_lengths.TheConstants.{COUNT_LENGTH}
use Rattle.message.specs.declared.kind.Kind.{Kind}
use Rattle.message.specs.declared.kind.Kind.TheVariants.{Offer, Answer, Confirmation}
use Rattle.message.specs.declared.section.OfferSections.{OfferSections}
use Rattle.message.specs.declared.section.AnswerSections.{AnswerSections}
use Rattle.message.specs.declared.section.ConfirmationSections.{ConfirmationSections}
use Rattle.message.specs.Messages.{Message, offer, answer, confirmation, kind_byte}
use Rattle.message.specs.Shapes.{contents, layout, offset, shape_fault}

-- ---- the parts that stand in a message

-- the round that a head tells
abbrev pub round_in : List ℕ → ℕ
round_in head = number 8 (drop 3 head)

abbrev pub round_read : Numbers → Kind → List ℕ → ℕ
round_read k kind message = round_in (contents k kind 0 message)

abbrev pub parts : Numbers → Kind → List ℕ → Message
parts k Offer message =
    offer (round_read k Offer message)
    (contents k Offer 1 message)
    (unpacked k.w k.n (contents k Offer 2 message))
parts k Answer message =
    answer (round_read k Answer message)
    (unpacked k.w k.n (contents k Answer 1 message))
    (unpacked k.signal_width k.n (contents k Answer 2 message))
parts k Confirmation message = confirmation (round_read k Confirmation message)

-- ---- refusals

-- that byte i of the head, which begins after its count, is the right one
abbrev pub byte_fault : (i right : ℕ) → List ℕ → Option Fault
byte_fault i right head = if slice_index head i == right then None else Some (WrongHead (COUNT_LENGTH + i))

abbrev pub head_fault : Numbers → Kind → List ℕ → Option Fault
head_fault k kind head =
    option_or (byte_fault 0 (kind_byte kind) head)
    (option_or (byte_fault 1 k.numbers_byte head)
    (byte_fault 2 k.reconciler_byte head))

-- that n numbers of w bits have no bits after them in bytes that begin at an offset: what is after them is
-- in the last byte
abbrev pub spare_bit_fault : (n w at many : ℕ) → List ℕ → Option Fault
spare_bit_fault n w at many bytes =
    if nat_lt (number 8 bytes) (2 ^ (n * w)) then None else Some (SpareBit (at + many - 1))

-- only signals may have spare bits: rounded values fill whole bytes
abbrev pub spare_fault : Numbers → Kind → List ℕ → Option Fault
spare_fault k Offer message = None
spare_fault k Answer message =
    spare_bit_fault k.n k.signal_width (offset k Answer 2) (signals_length k) (contents k Answer 2 message)
spare_fault k Confirmation message = None

-- the order in which faults are tried
abbrev pub reading_fault : Numbers → Kind → List ℕ → Option Fault
reading_fault k kind message =
    option_or (shape_fault 0 (layout k kind) message)
    (option_or (head_fault k kind (contents k kind 0 message))
    (spare_fault k kind message))

-- what reading a message as one of a kind gives
abbrev pub reading : Numbers → Kind → List ℕ → Result Message Fault
reading k kind message = unless (reading_fault k kind message) (parts k kind message)

-- ---- the parts that the sections handed out hold

abbrev pub parts_of_offer : Numbers → OfferSections → Message
parts_of_offer k o = offer o.round o.seed.bytes.now (unpacked k.w k.n o.values.bytes.now)

abbrev pub parts_of_answer : Numbers → AnswerSections → Message
parts_of_answer k a =
    answer a.round (unpacked k.w k.n a.values.bytes.now) (unpacked k.signal_width k.n a.signals.bytes.now)

abbrev pub parts_of_confirmation : ConfirmationSections → Message
parts_of_confirmation c = confirmation c.round
