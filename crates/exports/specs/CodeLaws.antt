-- That a code tells which outcome it is of.
use Rattle.std.specs.Prelude.{◌≡◌, ℕ, ◌/◌, ◌%◌, ◌^◌, ◌<◌, ◌≤◌}
use Rattle.ring.specs.Faults.{report}
use Rattle.ring.specs.declared.fault.Fault.{Fault}
use Rattle.message.specs.Faults as message
use Rattle.message.specs.declared.fault.Fault as message_fault
use Rattle.exports.specs.Codes.{fault_code, message_fault_code, no_call, pair_number}

-- the fault's number and place are read back from its code, which has more than 56 bits, as no value has,
-- and is below that of no call
pub record TellsFault (number place code : ℕ) : Type 0 where
  pub number_is : code / 2 ^ 56 ≡ number
  pub place_is : code % 2 ^ 56 ≡ place
  pub more_bits : 2 ^ 56 ≤ code
  pub below_no_call : code < no_call

-- a signal and a key bit are read back from the number of both
pub record TellsPair (signal bit : ℕ) : Type 0 where
  pub signal_is : pair_number (signal, bit) / 2 ≡ signal
  pub bit_is : pair_number (signal, bit) % 2 ≡ bit

-- every fault of either layer with a place of less than 56 bits, and every signal and key bit
pub record CodesTellOutcomes : Type 0 where
  pub ring_faults :
      (fault : Fault) → (report fault).place < 2 ^ 56 →
      TellsFault (report fault).number (report fault).place (fault_code fault)
  pub message_faults :
      (fault : message_fault.Fault) → (message.report fault).place < 2 ^ 56 →
      TellsFault (message.report fault).number (message.report fault).place (message_fault_code fault)
  pub pairs : (signal bit : ℕ) → bit < 2 → TellsPair signal bit
