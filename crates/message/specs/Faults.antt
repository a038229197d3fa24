-- Faults of layer 2, messages: what is reported of one.
use Rattle.ring.specs.Faults.{Report}
use Rattle.message.specs.declared.fault.Fault.{Fault}
use Rattle.message.specs.declared.fault.Fault.TheVariants.{WrongShape, WrongHead, SpareBit}

abbrev pub report : Fault → Report
report (WrongShape place) = record { layer = 2; number = 7; place = place }
report (WrongHead place) = record { layer = 2; number = 8; place = place }
report (SpareBit place) = record { layer = 2; number = 9; place = place }
