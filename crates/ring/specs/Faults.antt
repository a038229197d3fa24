-- Faults of layer 1, the ring: what is reported of one, its layer, its number and its place. And the
-- outcomes of calls that try tests one after another, for the faults of any layer.
use Rattle.std.specs.Prelude.{ℕ, Ok, Err, Result, Some, None, Option, Bool, if◌then◌else◌}
use Rattle.ring.specs.declared.fault.Fault.{Fault}
use Rattle.ring.specs.declared.fault.Fault.TheVariants.{WrongLength, OutOfRange, SumTooLarge}
use Rattle.ring.specs.declared.fault.Fault.TheVariants.{CoinOutOfRange, SourceSpent}

-- what is reported of a fault
pub record Report : Type 0 where
  pub layer : ℕ
  pub number : ℕ
  pub place : ℕ

abbrev pub report : Fault → Report
report (WrongLength place) = record { layer = 1; number = 1; place = place }
report (OutOfRange place) = record { layer = 1; number = 2; place = place }
report (SumTooLarge place) = record { layer = 1; number = 3; place = place }
report (CoinOutOfRange place) = record { layer = 1; number = 4; place = place }
report (SourceSpent place) = record { layer = 1; number = 5; place = place }

-- ---- outcomes

-- the outcome where a test is passed, and else a refusal with the fault
abbrev pub checked : {X F : Type 0} → Bool → F → Result X F → Result X F
checked test fault outcome = if test then outcome else Err fault

-- the outcome where there is no fault
abbrev pub unless : {X F : Type 0} → Option F → X → Result X F
unless None outcome = Ok outcome
unless (Some fault) outcome = Err fault

-- the outcome that comes after an acceptance
abbrev pub followed : {X A F : Type 0} → Result A F → Result X F → Result X F
followed (Ok _) outcome = outcome
followed (Err fault) outcome = Err fault

-- the outcome of a lower layer, whose fault is passed up as one of a higher
abbrev pub passed_up : {X F G : Type 0} → (F → G) → Result X F → Result X G
passed_up into (Ok x) = Ok x
passed_up into (Err fault) = Err (into fault)

-- the outcome with what is told of an accepted value in its place
abbrev pub told : {X Y F : Type 0} → (X → Y) → Result X F → Result Y F
told tell (Ok x) = Ok (tell x)
told tell (Err fault) = Err fault

-- what is there after an outcome: the new value if it accepts, the old one if it refuses
abbrev pub after : {X A F : Type 0} → Result A F → X → X → X
after (Ok _) new old = new
after (Err _) new old = old

-- the same where the new value is a part of what the acceptance gives
abbrev pub after_part : {X A F : Type 0} → (A → X) → Result A F → X → X
after_part part (Ok accepted) old = part accepted
after_part part (Err _) old = old
