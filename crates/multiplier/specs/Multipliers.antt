-- What a multiplier is, and what the outcome of a multiplication is and means.
use Rattle.std.specs.Prelude.{◌≡◌, ℕ, ◌+◌, ◌^◌, ◌<◌, ◌≤◌, ◌⊎◌, ◌==◌, ◌≢◌, nat_le}
use Rattle.std.specs.Prelude.{List, length, Some, None, Ok, Err, Option, Result}
use Rattle.ring.specs.Elements.{AllBelow, FirstNotBelow, first_not_below}
use Rattle.ring.specs.Faults.{checked}
use Rattle.ring.specs.Residues.{IsModulus}
use Rattle.ring.specs.declared.fault.Fault.{Fault}
use Rattle.ring.specs.declared.fault.Fault.TheVariants.{WrongLength, OutOfRange, SumTooLarge}
use Rattle.ring.specs.declared.fault.Fault.TheVariants.{CoinOutOfRange, SourceSpent}
use Rattle.ring.specs.declared.place.TheConstants.{LEFT_LIST, RIGHT_LIST, SCRATCH, OUTPUT}
use Rattle.multiplier.specs.declared.quotient.QuotientRing.{QuotientRing}

-- the degrees that a ring may have: the powers of two from 1 to 1024
abbrev pub IsDegree : ℕ → Type 0
IsDegree n = (m : ℕ) × (m ≤ 10) × (n ≡ 2 ^ m)

-- the numbers that a multiplier may have: its degree, its modulus, and how many words of scratch it needs
pub record InRange (n q need : ℕ) : Type 0 where
  pub degree : IsDegree n
  pub modulus : IsModulus q
  pub need_most : need ≤ 65536

abbrev pub ring_from : ℕ → ℕ → Option QuotientRing → Type 0
ring_from n q (Some ring) = (ring.degree ≡ n) × (ring.modulus ≡ q) × IsDegree n × IsModulus q
ring_from n q None = IsDegree n × IsModulus q → ⊥

-- the outcome for two lists, and for scratch and an output of so many words
abbrev pub multiply_outcome : (n q need : ℕ) (left right : List ℕ) (scratch output : ℕ)
    → Result (Unit {0}) Fault
multiply_outcome n q need left right scratch output =
    checked (length left == n) (WrongLength LEFT_LIST)
    (checked (length right == n) (WrongLength RIGHT_LIST)
    (checked (nat_le need scratch) (WrongLength SCRATCH)
    (checked (output == n) (WrongLength OUTPUT)
    (checked (nat_le n (first_not_below q left)) (OutOfRange (first_not_below q left))
    (checked (nat_le n (first_not_below q right)) (OutOfRange (n + first_not_below q right))
    (Ok tt))))))

-- the two lists, scratch and the output are as long as they have to be
pub record LengthsFit (n need left right scratch output : ℕ) : Type 0 where
  pub left_long : left ≡ n
  pub right_long : right ≡ n
  pub scratch_long : need ≤ scratch
  pub output_long : output ≡ n

-- the lists and buffers fit, and every number is below q
pub record Fitting (n q need : ℕ) (left right : List ℕ) (scratch output : ℕ) : Type 0 where
  pub lengths : LengthsFit n need (length left) (length right) scratch output
  pub left_below : AllBelow q left
  pub right_below : AllBelow q right

-- place is the first whose length is wrong
abbrev pub FirstWrongLength : (n need left right scratch output place : ℕ) → Type 0
FirstWrongLength n need left right scratch output place =
    ((place ≡ LEFT_LIST) × (left ≢ n))
    ⊎ ((left ≡ n) × (((place ≡ RIGHT_LIST) × (right ≢ n))
    ⊎ ((right ≡ n) × (((place ≡ SCRATCH) × (scratch < need))
    ⊎ ((need ≤ scratch) × (place ≡ OUTPUT) × (output ≢ n))))))

-- place is that of the first number that is not below q: i in the left list, or n + i in the right one,
-- where all of the left are below q
abbrev pub FirstOutOfRange : (n q : ℕ) (left right : List ℕ) (place : ℕ) → Type 0
FirstOutOfRange n q left right place =
    FirstNotBelow q left place
    ⊎ (AllBelow q left × ((i : ℕ) × (place ≡ n + i) × FirstNotBelow q right i))

-- what each outcome says of the lists and buffers: that they fit, or where they first do not, lengths before
-- numbers
abbrev pub MultiplyMeans : (n q need : ℕ) (left right : List ℕ) (scratch output : ℕ)
    → Result (Unit {0}) Fault → Type 0
MultiplyMeans n q need left right scratch output (Ok _) = Fitting n q need left right scratch output
MultiplyMeans n q need left right scratch output (Err (WrongLength place)) =
    FirstWrongLength n need (length left) (length right) scratch output place
MultiplyMeans n q need left right scratch output (Err (OutOfRange place)) =
    LengthsFit n need (length left) (length right) scratch output × FirstOutOfRange n q left right place
MultiplyMeans n q need left right scratch output (Err (SumTooLarge place)) = ⊥
MultiplyMeans n q need left right scratch output (Err (CoinOutOfRange place)) = ⊥
MultiplyMeans n q need left right scratch output (Err (SourceSpent place)) = ⊥

-- every two lists, and buffers of every length
abbrev pub MultiplyRefusesTheFirst : Type 0
MultiplyRefusesTheFirst =
    (n q need : ℕ) (left right : List ℕ) (scratch output : ℕ)
    → MultiplyMeans n q need left right scratch output (multiply_outcome n q need left right scratch output)

-- and what fits is accepted
abbrev pub MultiplyAcceptsWhatFits : Type 0
MultiplyAcceptsWhatFits =
    (n q need : ℕ) (left right : List ℕ) (scratch output : ℕ)
    → Fitting n q need left right scratch output
    → multiply_outcome n q need left right scratch output ≡ Ok tt
