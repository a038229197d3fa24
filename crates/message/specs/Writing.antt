-- What writing a message from its parts gives, into so much room. Faults are tried in the order that the
-- tests have here.
use Rattle.std.specs.Prelude.{ℕ, ◌+◌, ◌^◌, List, length, ◌==◌, Ok, Result, nat_le}
use Rattle.ring.specs.Elements.{first_not_below}
use Rattle.ring.specs.Faults.{checked}
use Rattle.ring.specs.declared.fault.Fault.{Fault}
use Rattle.ring.specs.declared.fault.Fault.TheVariants.{WrongLength, OutOfRange}
use Rattle.ring.specs.declared.place.TheConstants.{OUTPUT, SIGNALS, VALUES}
use Rattle.message.specs.Lengths.{offer_length, answer_length, confirmation_length}
use Rattle.profile.specs.declared.numbers.Numbers.{Numbers}
use Rattle.message.specs.declared.kind.Kind.{Kind}
use Rattle.message.specs.declared.kind.Kind.TheVariants.{Offer, Answer, Confirmation}
use Rattle.message.specs.Messages.{Message, offer, answer, confirmation}

-- a test that each number of a list of n fits w bits, where faults tell the place of number i
abbrev pub check_fit : (n w : ℕ) (place : ℕ → ℕ) → List ℕ → Result (Unit {0}) Fault → Result (Unit {0}) Fault
check_fit n w place xs rest =
    checked (nat_le n (first_not_below (2 ^ w) xs)) (OutOfRange (place (first_not_below (2 ^ w) xs))) rest

abbrev pub write_outcome : Numbers → Message → (room : ℕ) → Result (Unit {0}) Fault
write_outcome k (offer round seed values) room =
    checked (length values == k.n) (WrongLength VALUES)
    (checked (room == offer_length k) (WrongLength OUTPUT)
    (check_fit k.n k.w (λ i. i) values
    (Ok tt)))
write_outcome k (answer round values signals) room =
    checked (length values == k.n) (WrongLength VALUES)
    (checked (length signals == k.n) (WrongLength SIGNALS)
    (checked (room == answer_length k) (WrongLength OUTPUT)
    (check_fit k.n k.w (λ i. i) values
    (check_fit k.n k.signal_width (λ i. k.n + i) signals
    (Ok tt)))))
write_outcome k (confirmation round) room =
    checked (room == confirmation_length) (WrongLength OUTPUT) (Ok tt)

-- how long the messages of a kind are
abbrev pub message_length : Numbers → Kind → ℕ
message_length k Offer = offer_length k
message_length k Answer = answer_length k
message_length k Confirmation = confirmation_length
