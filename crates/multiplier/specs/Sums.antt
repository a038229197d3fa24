-- The sums that the two multipliers add up in natural numbers, before one reduction modulo q.
use Rattle.std.specs.Prelude.{◌≡◌, ℕ, zero, suc, ◌+◌, ◌-◌, ◌*◌, ◌%◌, ◌^◌, ◌≤◌}
use Rattle.std.specs.Prelude.{List, map, length, pos, slice_index}
use Rattle.ring.specs.Elements.{AllBelow}
use Rattle.ring.specs.Residues.{IsModulus, residue}
use Rattle.ring.specs.declared.degree.TheConstants.{LARGEST_DEGREE}
use Rattle.element.specs.Products.{coefficient, at}

-- f 0 + .. + f (m - 1)
unfoldable pub nat_sum : ℕ → (ℕ → ℕ) → ℕ
nat_sum zero f = 0
nat_sum (suc m) f = nat_sum m f + f m

-- a residue negated modulo q
abbrev pub negated : ℕ → ℕ → ℕ
negated q x = (q - x) % q

-- the coefficient k of the product of two elements
abbrev pub coefficient_mod : (n q : ℕ) (left right : List ℕ) (k : ℕ) → ℕ
coefficient_mod n q left right k = residue q (coefficient n (at (map pos left)) (at (map pos right)) k)

-- what the first m rows add up to in the coefficient k
abbrev pub sum_of_rows : (left words : List ℕ) (m k : ℕ) → ℕ
sum_of_rows left words m k = nat_sum m (λ i. slice_index left i * slice_index words (length left - i + k))

-- two lists of one length, at most 1024, of numbers below a modulus q
pub record AreFactors (q : ℕ) (left right : List ℕ) : Type 0 where
  pub is_modulus : IsModulus q
  pub short : length left ≤ LARGEST_DEGREE
  pub long : length right ≡ length left
  pub left_below : AllBelow q left
  pub right_below : AllBelow q right

-- at most 1024 left coefficients, and the words that their rows are taken from
pub record AreRows (left words : List ℕ) : Type 0 where
  pub short : length left ≤ LARGEST_DEGREE
  pub long : length words ≡ 2 * length left
  pub left_below : AllBelow (2 ^ 23) left
  pub words_below : AllBelow (2 ^ 23) words
