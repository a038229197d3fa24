-- What the exported functions that read messages give and leave.
use Rattle.std.specs.Prelude.{◌≡◌, ◌≢◌, ℕ, ◌==◌, List, [], length, Ok, Err, Result}
use Rattle.ring.specs.Faults.{after_part, checked, followed, passed_up, told}
use Rattle.ring.specs.declared.fault.Fault.{Fault}
use Rattle.ring.specs.declared.fault.Fault.TheVariants.{WrongLength, OutOfRange, SumTooLarge}
use Rattle.ring.specs.declared.fault.Fault.TheVariants.{CoinOutOfRange, SourceSpent}
use Rattle.ring.specs.declared.place.TheConstants.{VALUES, SIGNALS}
use Rattle.profile.specs.declared.numbers.Numbers.{Numbers}
use Rattle.message.specs.Messages.{Message, offer, answer, confirmation, round_of}
use Rattle.message.specs.Reading.{reading}
use Rattle.message.specs.declared.kind.Kind.{Kind}
use Rattle.message.specs.declared.kind.Kind.TheVariants as kinds
use Rattle.exports.specs.declared.refusal.Refusal.{Refusal}
use Rattle.exports.specs.declared.refusal.Refusal.TheVariants as refusals
use Rattle.exports.specs.ByProfile.{by_profile}
use Rattle.exports.specs.Codes.{reading_code, no_call}

-- ---- what reading gives, with a profile's numbers

-- that a buffer, which is that argument of a call, has room for n numbers and no more
abbrev pub room_outcome : Numbers → (argument room : ℕ) → Result (Unit {0}) Fault
room_outcome k argument room = checked (room == k.n) (WrongLength argument) (Ok tt)

-- what each outcome of that test says
abbrev pub RoomMeans : Numbers → (argument room : ℕ) → Result (Unit {0}) Fault → Type 0
RoomMeans k argument room (Ok _) = room ≡ k.n
RoomMeans k argument room (Err (WrongLength place)) = (room ≢ k.n) × (place ≡ argument)
RoomMeans k argument room (Err (OutOfRange i)) = ⊥
RoomMeans k argument room (Err (SumTooLarge i)) = ⊥
RoomMeans k argument room (Err (CoinOutOfRange i)) = ⊥
RoomMeans k argument room (Err (SourceSpent count)) = ⊥

-- that test's outcome and a message's, as outcomes that may refuse for either
abbrev pub room_checked : Numbers → (argument room : ℕ) → Result (Unit {0}) Refusal
room_checked k argument room = passed_up refusals.Ring (room_outcome k argument room)

abbrev pub message_read : Numbers → Kind → (message : List ℕ) → Result Message Refusal
message_read k kind message = passed_up refusals.Message (reading k kind message)

-- the lengths of the buffers are tried before the message is looked at
unfoldable pub offer_read : Numbers → (message : List ℕ) → (values_room : ℕ) → Result Message Refusal
offer_read k message values_room =
    followed (room_checked k VALUES values_room)
    (message_read k kinds.Offer message)

unfoldable pub answer_read :
    Numbers → (message : List ℕ) → (values_room signals_room : ℕ) → Result Message Refusal
answer_read k message values_room signals_room =
    followed (room_checked k VALUES values_room)
    (followed (room_checked k SIGNALS signals_room)
    (message_read k kinds.Answer message))

unfoldable pub confirmation_read : Numbers → (message : List ℕ) → Result Message Refusal
confirmation_read k message = message_read k kinds.Confirmation message

-- ---- what is told and left of them

abbrev pub round_told : Result Message Refusal → Result ℕ Refusal
round_told = told round_of

abbrev pub seed_of : Message → List ℕ
seed_of (offer round seed values) = seed
seed_of (answer round values signals) = []
seed_of (confirmation round) = []

abbrev pub values_of : Message → List ℕ
values_of (offer round seed values) = values
values_of (answer round values signals) = values
values_of (confirmation round) = []

abbrev pub signals_of : Message → List ℕ
signals_of (offer round seed values) = []
signals_of (answer round values signals) = signals
signals_of (confirmation round) = []

-- ---- the same for the profile of an index

abbrev pub read_offer_code : (profile : ℕ) → (message values : List ℕ) → ℕ
read_offer_code profile message values =
    by_profile (λ k _. reading_code (round_told (offer_read k message (length values)))) no_call profile

abbrev pub read_offer_seed : (profile : ℕ) → (message seed values : List ℕ) → List ℕ
read_offer_seed profile message seed values =
    by_profile (λ k _. after_part seed_of (offer_read k message (length values)) seed) seed profile

abbrev pub read_offer_values : (profile : ℕ) → (message values : List ℕ) → List ℕ
read_offer_values profile message values =
    by_profile (λ k _. after_part values_of (offer_read k message (length values)) values) values profile

abbrev pub read_answer_code : (profile : ℕ) → (message values signals : List ℕ) → ℕ
read_answer_code profile message values signals =
    by_profile
    (λ k _. reading_code (round_told (answer_read k message (length values) (length signals))))
    no_call profile

abbrev pub read_answer_values : (profile : ℕ) → (message values signals : List ℕ) → List ℕ
read_answer_values profile message values signals =
    by_profile
    (λ k _. after_part values_of (answer_read k message (length values) (length signals)) values)
    values profile

abbrev pub read_answer_signals : (profile : ℕ) → (message values signals : List ℕ) → List ℕ
read_answer_signals profile message values signals =
    by_profile
    (λ k _. after_part signals_of (answer_read k message (length values) (length signals)) signals)
    signals profile

abbrev pub read_confirmation_code : (profile : ℕ) → (message : List ℕ) → ℕ
read_confirmation_code profile message =
    by_profile (λ k _. reading_code (round_told (confirmation_read k message))) no_call profile
