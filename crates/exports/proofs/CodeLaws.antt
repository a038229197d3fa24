-- What is read back from a code.
use Rattle.std.proofs.Common.{◌≡◌, ℕ, ◌-◌, ◌^◌, ◌<◌, ◌≤◌, arith}
use Rattle.std.specs.Prelude.{min}
use Rattle.std.proofs.Math.Nat.{min-eq_left}
use Rattle.ring.specs.Faults.{report}
use Rattle.ring.specs.declared.fault.Fault.{Fault}
use Rattle.ring.specs.declared.fault.Fault.TheVariants.{WrongLength, OutOfRange, SumTooLarge, CoinOutOfRange, SourceSpent}
use Rattle.message.specs.Faults as message
use Rattle.message.specs.declared.fault.Fault as message_fault
use Rattle.message.specs.declared.fault.Fault.TheVariants.{WrongShape, WrongHead, SpareBit}
use Rattle.exports.specs.Codes.{code_of, fault_code, message_fault_code}
use Rattle.exports.specs.CodeLaws.{CodesTellOutcomes, TellsFault}

tells : (number place : ℕ) → 1 ≤ number → number < 128 → place < 2 ^ 56 → TellsFault number place (code_of number place)
tells number place some few fits =
    let whole : min place (2 ^ 56 - 1) ≡ place = min-eq_left (omega arith) in
    record {
      number_is = omega arith;
      place_is = omega arith;
      more_bits = omega arith;
      below_no_call = omega arith;
    }

ring_fault : (fault : Fault) → (report fault).place < 2 ^ 56 → TellsFault (report fault).number (report fault).place (fault_code fault)
ring_fault (WrongLength place) fits = tells 1 place (omega arith) (omega arith) fits
ring_fault (OutOfRange place) fits = tells 2 place (omega arith) (omega arith) fits
ring_fault (SumTooLarge place) fits = tells 3 place (omega arith) (omega arith) fits
ring_fault (CoinOutOfRange place) fits = tells 4 place (omega arith) (omega arith) fits
ring_fault (SourceSpent place) fits = tells 5 place (omega arith) (omega arith) fits

message_fault_told : (fault : message_fault.Fault) → (message.report fault).place < 2 ^ 56 → TellsFault (message.report fault).number (message.report fault).place (message_fault_code fault)
message_fault_told (WrongShape place) fits = tells 7 place (omega arith) (omega arith) fits
message_fault_told (WrongHead place) fits = tells 8 place (omega arith) (omega arith) fits
message_fault_told (SpareBit place) fits = tells 9 place (omega arith) (omega arith) fits

pub codes_tell_outcomes : CodesTellOutcomes
codes_tell_outcomes = record {
  ring_faults = ring_fault;
  message_faults = message_fault_told;
  pairs = λ signal bit small. record { signal_is = omega arith; bit_is = omega arith };
}
