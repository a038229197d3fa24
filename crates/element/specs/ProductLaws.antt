-- The laws of the product of integer lists and of elements, for every n and modulus q.
use Rattle.std.specs.Prelude.{◌≡◌, ℕ, ◌+◌, ◌*◌, ◌<◌, ◌≤◌, List, [], ◌∷◌, ◌++◌, map, length, sum_by}
use Rattle.std.specs.Prelude.{ℤ, pos, ◌+ℤ◌, ◌*ℤ◌, neg_ℤ, unsigned_abs}
use Rattle.std.specs.List.{range_with_len}
use Rattle.ring.specs.Elements.{IsElement}
use Rattle.ring.specs.Residues.{residue}
use Rattle.element.specs.Products.{at, coefficient, integer_product, product}

-- the n sums of the coefficients of u and v
unfoldable pub added : ℕ → List ℤ → List ℤ → List ℤ
added n u v = map (λ i. at u i +ℤ at v i) (range_with_len 0 n)

-- c times each of the n coefficients of u
unfoldable pub scaled : ℕ → ℤ → List ℤ → List ℤ
scaled n c u = map (λ i. c *ℤ at u i) (range_with_len 0 n)

-- the residue of each number of an integer list
abbrev pub residues : ℕ → List ℤ → List ℕ
residues q u = map (residue q) u

pub record ProductLaws : Type 0 where
  -- 1 times v is v
  pub one_times : (n : ℕ) (v : List ℤ) → 0 < n → length v ≡ n → integer_product n (pos 1 ∷ []) v ≡ v
  -- x moves each coefficient a place up, and the last one to the front with its sign changed: x^n is -1
  pub x_times : (n : ℕ) (v : List ℤ) (z : ℤ) → 0 < length v → length v + 1 ≡ n
      → integer_product n (pos 0 ∷ pos 1 ∷ []) (v ++ z ∷ []) ≡ neg_ℤ z ∷ v
  -- the product is linear in the left factor
  pub sum_on_the_left : (n : ℕ) (u w v : List ℤ)
      → integer_product n (added n u w) v ≡ added n (integer_product n u v) (integer_product n w v)
  pub multiple_on_the_left : (n : ℕ) (c : ℤ) (u v : List ℤ)
      → integer_product n (scaled n c u) v ≡ scaled n c (integer_product n u v)
  -- and in the right factor
  pub sum_on_the_right : (n : ℕ) (u v w : List ℤ)
      → integer_product n u (added n v w) ≡ added n (integer_product n u v) (integer_product n u w)
  pub multiple_on_the_right : (n : ℕ) (c : ℤ) (u v : List ℤ)
      → integer_product n u (scaled n c v) ≡ scaled n c (integer_product n u v)
  -- the two factors may be exchanged
  pub commutative : (n : ℕ) (u v : List ℤ) → integer_product n u v ≡ integer_product n v u
  pub commutative_of_elements : (n q : ℕ) (a b : List ℕ) → product n q a b ≡ product n q b a
  -- to multiply by s and then by t is to multiply by t and then by s
  pub either_order : (n : ℕ) (a s t : List ℤ)
      → integer_product n (integer_product n a s) t ≡ integer_product n (integer_product n a t) s
  pub either_order_of_elements : (n q : ℕ) (a s t : List ℕ) → 0 < q
      → product n q (product n q a s) t ≡ product n q (product n q a t) s
  -- where no coefficient of u is larger than m, none of the product is larger than m times the sum of the
  -- sizes of v's
  pub size : (n m : ℕ) (u v : List ℤ) (k : ℕ) → k < n → ((i : ℕ) → i < n → unsigned_abs (at u i) ≤ m)
      → unsigned_abs (coefficient n (at u) (at v) k) ≤ m * sum_by unsigned_abs v
  -- the product of the residues is the residues of the product
  pub residues_of_product : (n q : ℕ) (u v : List ℤ) → 0 < q
      → product n q (residues q u) (residues q v) ≡ residues q (integer_product n u v)
  -- so the product of elements is linear too
  pub element_sum_on_the_left : (n q : ℕ) (u w v : List ℤ) → 0 < q
      → product n q (residues q (added n u w)) (residues q v)
      ≡ residues q (added n (integer_product n u v) (integer_product n w v))
  pub element_sum_on_the_right : (n q : ℕ) (u v w : List ℤ) → 0 < q
      → product n q (residues q u) (residues q (added n v w))
      ≡ residues q (added n (integer_product n u v) (integer_product n u w))
  -- the product has n numbers, and is an element where there are residues
  pub length_of_product : (n q : ℕ) (a b : List ℕ) → length (product n q a b) ≡ n
  pub is_element : (n q : ℕ) (a b : List ℕ) → 0 < q → IsElement n q (product n q a b)
