-- The product of ring elements: lists of n residues modulo q, coefficient 0 first, multiplied modulo x^n + 1
-- and q.
use Rattle.std.specs.Prelude.{ℕ, zero, suc, ◌+◌, ◌-◌, nat_le, if◌then◌else◌, List, map, slice_index_or}
use Rattle.std.specs.Prelude.{ℤ, pos, ◌+ℤ◌, ◌*ℤ◌, neg_ℤ}
use Rattle.std.specs.List.{range_with_len}
use Rattle.ring.specs.Residues.{residue}

-- f 0 + .. + f (m - 1)
unfoldable pub sum_to : ℕ → (ℕ → ℤ) → ℤ
sum_to zero f = pos 0
sum_to (suc m) f = sum_to m f +ℤ f m

-- the coefficient i of an integer list
abbrev pub at : List ℤ → ℕ → ℤ
at u i = slice_index_or u i (pos 0)

-- the coefficient k of x^i v modulo x^n + 1: v_j where i + j = k, and -v_j where i + j = k + n
abbrev pub shifted : ℕ → (ℕ → ℤ) → ℕ → ℕ → ℤ
shifted n v k i = if nat_le i k then v (k - i) else neg_ℤ (v (k + n - i))

-- the coefficient k of u v modulo x^n + 1: u_i v_j, plus where i + j = k and minus where i + j = k + n,
-- added up over i
unfoldable pub coefficient : ℕ → (ℕ → ℤ) → (ℕ → ℤ) → ℕ → ℤ
coefficient n u v k = sum_to n (λ i. u i *ℤ shifted n v k i)

-- the product of two integer lists
unfoldable pub integer_product : ℕ → List ℤ → List ℤ → List ℤ
integer_product n u v = map (coefficient n (at u) (at v)) (range_with_len 0 n)

-- the product of two elements
unfoldable pub product : ℕ → ℕ → List ℕ → List ℕ → List ℕ
product n q a b = map (residue q) (integer_product n (map pos a) (map pos b))
