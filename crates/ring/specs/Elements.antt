-- Lists of numbers below a bound, and where a list first has another. An element of a ring is n numbers
-- below q.
use Rattle.std.specs.Prelude.{◌≡◌, ℕ, ◌<◌, ◌≤◌, ◌⊎◌, List, length, take, nat_lt, slice_index, All}
use Rattle.std.specs.List.{prefix_len}

-- every number is below the bound
abbrev pub AllBelow : (bound : ℕ) → List ℕ → Type 0
AllBelow bound xs = All (λ x. x < bound) xs

-- the index of the first that is not below the bound, and the length where there is none
abbrev pub first_not_below : (bound : ℕ) → List ℕ → ℕ
first_not_below bound xs = prefix_len (λ x. nat_lt x bound) xs

-- i is the index of the first that is not below the bound
pub record FirstNotBelow (bound : ℕ) (xs : List ℕ) (i : ℕ) : Type 0 where
  pub inside : i < length xs
  pub before : AllBelow bound (take i xs)
  pub here : bound ≤ slice_index xs i

-- what such an index means, of any list and any test: all are good and it is the length, or it is that of
-- the first that is not
abbrev pub NoneOrFirst : (long : ℕ) (AllGood : Type 0) (FirstOther : ℕ → Type 0) (place : ℕ) → Type 0
NoneOrFirst long AllGood FirstOther place = ((place ≡ long) × AllGood) ⊎ FirstOther place

abbrev pub NoneOrFirstNotBelow : (bound : ℕ) → List ℕ → (place : ℕ) → Type 0
NoneOrFirstNotBelow bound xs place =
    NoneOrFirst (length xs) (AllBelow bound xs) (FirstNotBelow bound xs) place

-- an element: n residues modulo q
pub record IsElement (n q : ℕ) (xs : List ℕ) : Type 0 where
  pub long : length xs ≡ n
  pub below : AllBelow q xs
