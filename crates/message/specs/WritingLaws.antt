-- What each outcome of writing says of the parts and of the room.
use Rattle.std.specs.Prelude.{◌≡◌, ◌≢◌, ℕ, ◌+◌, ◌^◌, ◌⊎◌, length, Ok, Err, Result}
use Rattle.ring.specs.Elements.{AllBelow, FirstNotBelow}
use Rattle.ring.specs.declared.fault.Fault.{Fault}
use Rattle.ring.specs.declared.fault.Fault.TheVariants.{WrongLength, OutOfRange}
use Rattle.ring.specs.declared.fault.Fault.TheVariants.{SumTooLarge, CoinOutOfRange, SourceSpent}
use Rattle.ring.specs.declared.place.TheConstants.{OUTPUT, SIGNALS, VALUES}
use Rattle.profile.specs.declared.numbers.Numbers.{Numbers}
use Rattle.message.specs.Lengths.{offer_length, answer_length, confirmation_length}
use Rattle.message.specs.Messages.{Message, offer, answer, confirmation}
use Rattle.message.specs.Writing.{write_outcome}

-- n rounded values, n signals, and the room that the message takes
abbrev pub LengthsFit : Numbers → Message → (room : ℕ) → Type 0
LengthsFit k (offer round seed values) room = (length values ≡ k.n) × (room ≡ offer_length k)
LengthsFit k (answer round values signals) room =
    (length values ≡ k.n) × (length signals ≡ k.n) × (room ≡ answer_length k)
LengthsFit k (confirmation round) room = room ≡ confirmation_length

-- each rounded value and each signal fits the bits that it is packed in
abbrev pub NumbersFit : Numbers → Message → Type 0
NumbersFit k (offer round seed values) = AllBelow (2 ^ k.w) values
NumbersFit k (answer round values signals) =
    AllBelow (2 ^ k.w) values × AllBelow (2 ^ k.signal_width) signals
NumbersFit k (confirmation round) = Unit {0}

-- place is the first whose length is wrong
abbrev pub FirstWrongLength : Numbers → Message → (room place : ℕ) → Type 0
FirstWrongLength k (offer round seed values) room place =
    ((place ≡ VALUES) × (length values ≢ k.n))
    ⊎ ((length values ≡ k.n) × (place ≡ OUTPUT) × (room ≢ offer_length k))
FirstWrongLength k (answer round values signals) room place =
    ((place ≡ VALUES) × (length values ≢ k.n))
    ⊎ ((length values ≡ k.n) × (((place ≡ SIGNALS) × (length signals ≢ k.n))
    ⊎ ((length signals ≡ k.n) × (place ≡ OUTPUT) × (room ≢ answer_length k))))
FirstWrongLength k (confirmation round) room place = (place ≡ OUTPUT) × (room ≢ confirmation_length)

-- place is that of the first number that does not fit: rounded values count from 0 on, and signals from n on
abbrev pub FirstNotFitting : Numbers → Message → (place : ℕ) → Type 0
FirstNotFitting k (offer round seed values) place = FirstNotBelow (2 ^ k.w) values place
FirstNotFitting k (answer round values signals) place =
    FirstNotBelow (2 ^ k.w) values place
    ⊎ (AllBelow (2 ^ k.w) values
    × ((j : ℕ) × (place ≡ k.n + j) × FirstNotBelow (2 ^ k.signal_width) signals j))
FirstNotFitting k (confirmation round) place = ⊥

-- what each outcome says of the parts and of the room: that they fit, or where they first do not, lengths
-- before numbers
abbrev pub WriteMeans : Numbers → Message → (room : ℕ) → Result (Unit {0}) Fault → Type 0
WriteMeans k m room (Ok _) = LengthsFit k m room × NumbersFit k m
WriteMeans k m room (Err (WrongLength place)) = FirstWrongLength k m room place
WriteMeans k m room (Err (OutOfRange place)) = LengthsFit k m room × FirstNotFitting k m place
WriteMeans k m room (Err (SumTooLarge place)) = ⊥
WriteMeans k m room (Err (CoinOutOfRange place)) = ⊥
WriteMeans k m room (Err (SourceSpent place)) = ⊥

-- every message of any profile, into any room
abbrev pub WritingRefusesTheFirst : Type 0
WritingRefusesTheFirst =
    (k : Numbers) (m : Message) (room : ℕ) → WriteMeans k m room (write_outcome k m room)

abbrev pub WritingAcceptsWhatFits : Type 0
WritingAcceptsWhatFits =
    (k : Numbers) (m : Message) (room : ℕ) → LengthsFit k m room → NumbersFit k m
    → write_outcome k m room ≡ Ok tt
