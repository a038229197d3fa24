-- The length of a product, and the range of its numbers.
use Rattle.std.proofs.Common.{◌≡◌, ℕ, ◌<◌, List, map, length, get_or, ℤ, pos, ◌*ℤ◌, sym, refl, ap, ◌∙◌, subst, arith}
use Rattle.std.proofs.lemmas.List.{length-map, get_or-map}
use Rattle.std.proofs.lemmas.List.FromFn.{length-map-range_with_len, get_or-map-range_with_len}
use Rattle.std.proofs.lemmas.List.Elements.{All-from_get_or}
use Rattle.ring.specs.Elements.{IsElement}
use Rattle.ring.specs.Residues.{residue}
use Rattle.ring.proofs.Residues.{residue_below}
use Rattle.element.specs.Products.{sum_to, at, shifted, coefficient, integer_product, product}

pub coefficient_is : (n : ℕ) (u v : ℕ → ℤ) (k : ℕ) → coefficient n u v k ≡ sum_to n (λ i. u i *ℤ shifted n v k i)
unfolding coefficient
coefficient_is n u v k = refl

pub length_integer_product : (n : ℕ) (u v : List ℤ) → length (integer_product n u v) ≡ n
unfolding integer_product
length_integer_product n u v = length-map-range_with_len (coefficient n (at u) (at v)) 0 n

pub at_integer_product : (n : ℕ) (u v : List ℤ) (k : ℕ) → k < n → at (integer_product n u v) k ≡ coefficient n (at u) (at v) k
unfolding integer_product
at_integer_product n u v k h = get_or-map-range_with_len (coefficient n (at u) (at v)) 0 n k k (pos 0) h (omega arith)

pub product_is_residues : (n q : ℕ) (a b : List ℕ) → product n q a b ≡ map (residue q) (integer_product n (map pos a) (map pos b))
unfolding product
product_is_residues n q a b = refl

pub length_product : (n q : ℕ) (a b : List ℕ) → length (product n q a b) ≡ n
unfolding product
length_product n q a b = length-map (integer_product n (map pos a) (map pos b)) (residue q) ∙ length_integer_product n (map pos a) (map pos b)

pub get_or_product : (n q : ℕ) (a b : List ℕ) (k d : ℕ) → k < n → get_or (product n q a b) k d ≡ residue q (coefficient n (at (map pos a)) (at (map pos b)) k)
unfolding product
get_or_product n q a b k d h =
    let u = map pos a in
    let v = map pos b in
    get_or-map (residue q) (integer_product n u v) k (pos 0) d (subst (λ l. k < l) (sym (length_integer_product n u v)) h)
    ∙ ap (residue q) (at_integer_product n u v k h)

-- a product is an element: it has n numbers, and each is a residue
pub product_is_element : (n q : ℕ) (a b : List ℕ) → 0 < q → IsElement n q (product n q a b)
product_is_element n q a b some = record {
  long = length_product n q a b;
  below = All-from_get_or (λ x. x < q) (product n q a b) 0
      (λ k h.
      subst (λ x. x < q) (sym (get_or_product n q a b k 0 (subst (λ l. k < l) (length_product n q a b) h)))
      (residue_below q (coefficient n (at (map pos a)) (at (map pos b)) k) some));
}
