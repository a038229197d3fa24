-- The code of an outcome: how it is told in one number of 64 bits.
use Rattle.std.specs.Prelude.{ℕ, ◌+◌, ◌-◌, ◌*◌, ◌^◌, min, Ok, Err, Result}
use Rattle.ring.specs.Faults.{report}
use Rattle.ring.specs.declared.fault.Fault.{Fault}
use Rattle.message.specs.Faults as message
use Rattle.message.specs.declared.fault.Fault as message_fault
use Rattle.exports.specs.declared.refusal.Refusal.{Refusal}
use Rattle.exports.specs.declared.refusal.Refusal.TheVariants.{Ring, Message}

-- a fault's number, from bit 56 on, and its place below
abbrev pub code_of : (number place : ℕ) → ℕ
code_of number place = number * 2 ^ 56 + min place (2 ^ 56 - 1)

abbrev pub fault_code : Fault → ℕ
fault_code fault = code_of (report fault).number (report fault).place

abbrev pub message_fault_code : message_fault.Fault → ℕ
message_fault_code fault = code_of (message.report fault).number (message.report fault).place

-- the fault that was passed up
abbrev pub refusal_code : Refusal → ℕ
refusal_code (Ring fault) = fault_code fault
refusal_code (Message fault) = message_fault_code fault

-- what is accepted by its own code, and else the fault by its
abbrev pub outcome_code : {X F : Type 0} → (X → ℕ) → (F → ℕ) → Result X F → ℕ
outcome_code code fault_of (Ok accepted) = code accepted
outcome_code code fault_of (Err fault) = fault_of fault

-- an accepted value as itself
abbrev pub value_code : Result ℕ Fault → ℕ
value_code outcome = outcome_code (λ value. value) fault_code outcome

-- a signal and a key bit
abbrev pub pair_number : ℕ × ℕ → ℕ
pair_number pair = 2 * pair.0 + pair.1

abbrev pub pair_code : Result (ℕ × ℕ) Fault → ℕ
pair_code outcome = outcome_code pair_number fault_code outcome

-- an acceptance without a value
abbrev pub done_code : Result (Unit {0}) Fault → ℕ
done_code outcome = outcome_code (λ _. 0) fault_code outcome

-- the round of a message that is accepted
abbrev pub reading_code : Result ℕ Refusal → ℕ
reading_code outcome = outcome_code (λ round. round) refusal_code outcome

-- where no call can be made
abbrev pub no_call : ℕ
no_call = 2 ^ 63
