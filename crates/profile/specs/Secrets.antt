-- What a secret is, what comes of filling a place for one, and what the place holds.
use Rattle.std.specs.Prelude.{◌≡◌, ◌≢◌, ℕ, ◌+◌, ◌<◌, ◌≤◌, ◌==◌, leb}
use Rattle.std.specs.Prelude.{nat_le, if◌then◌else◌, Some, None, Ok, Err, Option, Result}
use Rattle.std.specs.Prelude.{List, [], ◌∷◌, length, take, replicate}
use Rattle.std.specs.Prelude.{slice_index_or, All, sum_by, ℤ, pos, unsigned_abs}
use Rattle.std.specs.Borrow.{Bor}
use Rattle.std.specs.List.{prefix_len}
use Rattle.ring.specs.Elements.{NoneOrFirst}
use Rattle.ring.specs.Faults.{checked}
use Rattle.ring.specs.declared.fault.Fault.{Fault}
use Rattle.ring.specs.declared.fault.Fault.TheVariants.{WrongLength, OutOfRange, SumTooLarge}
use Rattle.ring.specs.declared.fault.Fault.TheVariants.{CoinOutOfRange, SourceSpent}
use Rattle.ring.specs.declared.place.TheConstants.{COEFFICIENTS}
use Rattle.profile.specs.declared.bounds.Bounds.{Bounds}
use Rattle.profile.specs.declared.numbers.Numbers.{Numbers}

abbrev pub bounds_of : Numbers → Bounds
bounds_of k = record { n = k.n; e = k.e; l = k.l }

-- n coefficients, each of size at most e, with sizes that add up to at most l
pub record LawfulSecret (b : Bounds) (xs : List ℤ) : Type 0 where
  pub long : length xs ≡ b.n
  pub small : All (λ x. unsigned_abs x ≤ b.e) xs
  pub light : sum_by unsigned_abs xs ≤ b.l

-- the index of the first of a size above e, and the length where there is none
abbrev pub first_beyond : ℕ → List ℤ → ℕ
first_beyond e xs = prefix_len (λ x. leb (unsigned_abs x) e) xs

-- the index at which the sum, running on from `sum`, first passes l, and the length where it does not
abbrev pub first_past : ℕ → ℕ → List ℤ → ℕ
first_past sum l [] = 0
first_past sum l (x ∷ xs) =
    if nat_le (sum + unsigned_abs x) l then 1 + first_past (sum + unsigned_abs x) l xs else 0

-- the outcome of filling a place with xs
abbrev pub fill_outcome : Bounds → List ℤ → Result (Unit {0}) Fault
fill_outcome b xs =
    checked (length xs == b.n) (WrongLength COEFFICIENTS)
    (checked (nat_le b.n (first_beyond b.e xs)) (OutOfRange (first_beyond b.e xs))
    (checked (nat_le b.n (first_past 0 b.l xs)) (SumTooLarge (first_past 0 b.l xs))
    (Ok tt)))

-- i is the index of the first coefficient of a size above e
pub record FirstBeyond (e : ℕ) (xs : List ℤ) (i : ℕ) : Type 0 where
  pub inside : i < length xs
  pub before : All (λ x. unsigned_abs x ≤ e) (take i xs)
  pub here : e < unsigned_abs (slice_index_or xs i (pos 0))

-- all are within e, or it is the index of the first that is beyond
abbrev pub NoneOrFirstBeyond : (e : ℕ) → List ℤ → (place : ℕ) → Type 0
NoneOrFirstBeyond e xs place =
    NoneOrFirst (length xs) (All (λ x. unsigned_abs x ≤ e) xs) (FirstBeyond e xs) place

-- i is the index where the running sum of sizes first passes l
pub record FirstPast (l : ℕ) (xs : List ℤ) (i : ℕ) : Type 0 where
  pub inside : i < length xs
  pub before : sum_by unsigned_abs (take i xs) ≤ l
  pub here : l < sum_by unsigned_abs (take (i + 1) xs)

-- the sum of all sizes is at most l, or it is the index where the running sum first passes l
abbrev pub NoneOrFirstPast : (l : ℕ) → List ℤ → (place : ℕ) → Type 0
NoneOrFirstPast l xs place = NoneOrFirst (length xs) (sum_by unsigned_abs xs ≤ l) (FirstPast l xs) place

-- what each outcome says of the list: that it is a lawful secret, or where it first is not, by length, then
-- size, then sum
abbrev pub FillMeans : Bounds → List ℤ → Result (Unit {0}) Fault → Type 0
FillMeans b xs (Ok _) = LawfulSecret b xs
FillMeans b xs (Err (WrongLength place)) = (length xs ≢ b.n) × (place ≡ COEFFICIENTS)
FillMeans b xs (Err (OutOfRange i)) = (length xs ≡ b.n) × FirstBeyond b.e xs i
FillMeans b xs (Err (SumTooLarge i)) =
    (length xs ≡ b.n) × All (λ x. unsigned_abs x ≤ b.e) xs × FirstPast b.l xs i
FillMeans b xs (Err (CoinOutOfRange i)) = ⊥
FillMeans b xs (Err (SourceSpent i)) = ⊥

-- every list, under any bounds
abbrev pub FillRefusesTheFirst : Type 0
FillRefusesTheFirst = (b : Bounds) (xs : List ℤ) → FillMeans b xs (fill_outcome b xs)

-- and every lawful secret is accepted
abbrev pub FillAcceptsTheLawful : Type 0
FillAcceptsTheLawful = (b : Bounds) (xs : List ℤ) → LawfulSecret b xs → fill_outcome b xs ≡ Ok tt

-- what an optional slice shows
abbrev pub shown : Option (Bor (List ℤ)) → Option (List ℤ)
shown (Some r) = Some r.now
shown None = None

abbrev pub zeros : ℕ → List ℤ
zeros n = replicate n (pos 0)

-- what a place is at every moment: unfilled, with n words of 0, or holding a lawful secret, which is its n
-- words
pub record UnfilledOrLawful (b : Bounds) (held : Option (List ℤ)) (words : List ℤ) : Type 0 where
  pub unfilled : held ≡ None → words ≡ zeros b.n
  pub lawful : (xs : List ℤ) → held ≡ Some xs → LawfulSecret b xs
  pub in_words : (xs : List ℤ) → held ≡ Some xs → words ≡ xs
