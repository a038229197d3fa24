-- The laws of the product over integer lists and over elements.
use Rattle.std.proofs.Common.{◌≡◌, ℕ, zero, suc, ◌+◌, ◌-◌, ◌<◌, List, [], ◌∷◌, ◌++◌, map, length, ℤ, pos, ◌+ℤ◌, ◌*ℤ◌, neg_ℤ, sym, refl, ap, ◌∙◌, subst, subst₂, arith}
use Rattle.std.specs.List.{range_with_len}
use Rattle.std.proofs.lemmas.List.{length-map, get_or-map, get_or_push, get_or_append_left, same_lists}
use Rattle.std.proofs.lemmas.List.FromFn.{length-map-range_with_len, get_or-map-range_with_len, fill_by_all}
use Rattle.ring.specs.Residues.{residue}
use Rattle.element.specs.Products.{at, shifted, coefficient, integer_product, product}
use Rattle.element.specs.ProductLaws.{added, scaled, residues}
use Rattle.element.proofs.Congruences.{Congruent, congruent_same, congruent_residue, congruent_coefficient, residue_same}
use Rattle.element.proofs.Products.{shifted_low, shifted_high, coefficient_same, coefficient_monomial, coefficient_add_left, coefficient_times_left, coefficient_comm, coefficient_exchange}
use Rattle.element.proofs.Shapes.{at_integer_product, length_integer_product, product_is_residues}

-- equal numbers at the places below n give equal lists
same_counted : {X : Type 0} (n : ℕ) (d : X) (f g : ℕ → X) → ((k : ℕ) → k < n → f k ≡ g k) → map f (range_with_len 0 n) ≡ map g (range_with_len 0 n)
same_counted n d f g same =
    fill_by_all g (map f (range_with_len 0 n)) n d (length-map-range_with_len f 0 n)
    (λ k h. get_or-map-range_with_len f 0 n k k d h (omega arith) ∙ same k h)

pub at_added : (n : ℕ) (u v : List ℤ) (i : ℕ) → i < n → at (added n u v) i ≡ at u i +ℤ at v i
unfolding added
at_added n u v i h = get_or-map-range_with_len (λ j. at u j +ℤ at v j) 0 n i i (pos 0) h (omega arith)

pub at_scaled : (n : ℕ) (c : ℤ) (u : List ℤ) (i : ℕ) → i < n → at (scaled n c u) i ≡ c *ℤ at u i
unfolding scaled
at_scaled n c u i h = get_or-map-range_with_len (λ j. c *ℤ at u j) 0 n i i (pos 0) h (omega arith)

-- ---- integer lists

-- a product whose coefficients are known
pub integer_product_by : (n : ℕ) (u v : List ℤ) (f : ℕ → ℤ) → ((k : ℕ) → k < n → coefficient n (at u) (at v) k ≡ f k) → integer_product n u v ≡ map f (range_with_len 0 n)
unfolding integer_product
integer_product_by n u v f is = same_counted n (pos 0) (coefficient n (at u) (at v)) f is

pub integer_product_comm : (n : ℕ) (u v : List ℤ) → integer_product n u v ≡ integer_product n v u
unfolding integer_product
integer_product_comm n u v = integer_product_by n u v (coefficient n (at v) (at u)) (coefficient_comm n (at u) (at v))

pub integer_product_add_left : (n : ℕ) (u w v : List ℤ) → integer_product n (added n u w) v ≡ added n (integer_product n u v) (integer_product n w v)
unfolding added
integer_product_add_left n u w v =
    integer_product_by n (added n u w) v (λ k. at (integer_product n u v) k +ℤ at (integer_product n w v) k)
    (λ k h.
    coefficient_same n (at (added n u w)) (λ i. at u i +ℤ at w i) (at v) (at v) k h (at_added n u w) (λ i l. refl)
    ∙ coefficient_add_left n (at u) (at w) (at v) k
    ∙ (λ t. sym (at_integer_product n u v k h) t +ℤ sym (at_integer_product n w v k h) t))

pub integer_product_scaled_left : (n : ℕ) (c : ℤ) (u v : List ℤ) → integer_product n (scaled n c u) v ≡ scaled n c (integer_product n u v)
unfolding scaled
integer_product_scaled_left n c u v =
    integer_product_by n (scaled n c u) v (λ k. c *ℤ at (integer_product n u v) k)
    (λ k h.
    coefficient_same n (at (scaled n c u)) (λ i. c *ℤ at u i) (at v) (at v) k h (at_scaled n c u) (λ i l. refl)
    ∙ coefficient_times_left n c (at u) (at v) k ∙ ap (λ x. c *ℤ x) (sym (at_integer_product n u v k h)))

pub integer_product_add_right : (n : ℕ) (u v w : List ℤ) → integer_product n u (added n v w) ≡ added n (integer_product n u v) (integer_product n u w)
integer_product_add_right n u v w =
    integer_product_comm n u (added n v w) ∙ integer_product_add_left n v w u
    ∙ (λ t. added n (integer_product_comm n v u t) (integer_product_comm n w u t))

pub integer_product_scaled_right : (n : ℕ) (c : ℤ) (u v : List ℤ) → integer_product n u (scaled n c v) ≡ scaled n c (integer_product n u v)
integer_product_scaled_right n c u v =
    integer_product_comm n u (scaled n c v) ∙ integer_product_scaled_left n c v u ∙ ap (scaled n c) (integer_product_comm n v u)

pub integer_product_exchange : (n : ℕ) (a s t : List ℤ) → integer_product n (integer_product n a s) t ≡ integer_product n (integer_product n a t) s
integer_product_exchange n a s t =
    integer_product_by n (integer_product n a s) t (coefficient n (coefficient n (at a) (at t)) (at s))
    (λ k h. inner s t k h ∙ coefficient_exchange n (at a) (at s) (at t) k h)
    ∙ sym (integer_product_by n (integer_product n a t) s (coefficient n (coefficient n (at a) (at t)) (at s)) (inner t s))
  where
    inner : (x y : List ℤ) (k : ℕ) → k < n → coefficient n (at (integer_product n a x)) (at y) k ≡ coefficient n (coefficient n (at a) (at x)) (at y) k
    inner x y k h =
        coefficient_same n (at (integer_product n a x)) (coefficient n (at a) (at x)) (at y) (at y) k h
        (at_integer_product n a x) (λ i l. refl)

-- ---- 1 and x

pub integer_product_one : (n : ℕ) (v : List ℤ) → 0 < n → length v ≡ n → integer_product n (pos 1 ∷ []) v ≡ v
integer_product_one n v some size =
    integer_product_by n (pos 1 ∷ []) v (at v)
    (λ k h.
    coefficient_monomial n 0 (at (pos 1 ∷ [])) (at v) k some refl others
    ∙ shifted_low n (at v) k 0 (omega arith) ∙ ap (at v) (omega arith))
    ∙ sym (fill_by_all (at v) v n (pos 0) size (λ k h. refl))
  where
    others : (i : ℕ) → (i ≡ 0 → ⊥) → at (pos 1 ∷ []) i ≡ pos 0
    others zero apart = absurd (apart refl)
    others (suc i) apart = refl

pub integer_product_x : (n : ℕ) (v : List ℤ) (z : ℤ) → 0 < length v → length v + 1 ≡ n → integer_product n (pos 0 ∷ pos 1 ∷ []) (v ++ z ∷ []) ≡ neg_ℤ z ∷ v
integer_product_x n v z some size =
    integer_product_by n (pos 0 ∷ pos 1 ∷ []) (v ++ z ∷ []) (at (neg_ℤ z ∷ v))
    (λ k h. coefficient_monomial n 1 (at (pos 0 ∷ pos 1 ∷ [])) (at (v ++ z ∷ [])) k (omega arith) refl others ∙ turn k h)
    ∙ sym (fill_by_all (at (neg_ℤ z ∷ v)) (neg_ℤ z ∷ v) n (pos 0) (omega arith) (λ k h. refl))
  where
    others : (i : ℕ) → (i ≡ 1 → ⊥) → at (pos 0 ∷ pos 1 ∷ []) i ≡ pos 0
    others zero apart = refl
    others (suc zero) apart = absurd (apart refl)
    others (suc (suc i)) apart = refl

    turn : (k : ℕ) → k < n → shifted n (at (v ++ z ∷ [])) k 1 ≡ at (neg_ℤ z ∷ v) k
    turn zero h =
        shifted_high n (at (v ++ z ∷ [])) 0 1 (omega arith)
        ∙ ap neg_ℤ (get_or_push v z (pos 0) (0 + n - 1) (omega arith))
    turn (suc k) h =
        shifted_low n (at (v ++ z ∷ [])) (suc k) 1 (omega arith) ∙ ap (at (v ++ z ∷ [])) (omega arith)
        ∙ get_or_append_left v (z ∷ []) (pos 0) k (omega arith)

-- ---- elements

-- each coefficient is congruent to its residue, and there is nothing past the end
pub at_residues : (q : ℕ) (u : List ℤ) (i : ℕ) → 0 < q → Congruent q (at (map pos (residues q u)) i) (at u i)
at_residues q [] i some = congruent_same q (pos 0) (pos 0) refl
at_residues q (x ∷ u) zero some = congruent_residue q x some
at_residues q (x ∷ u) (suc i) some = at_residues q u i some

-- lists of n congruent integers have the same residues
pub residues_same : (n q : ℕ) (u v : List ℤ) → 0 < q → length u ≡ n → length v ≡ n → ((k : ℕ) → k < n → Congruent q (at u k) (at v k)) → residues q u ≡ residues q v
residues_same n q u v some u_size v_size each =
    same_lists (residues q u) (residues q v)
    (length-map u (residue q) ∙ u_size ∙ sym (length-map v (residue q) ∙ v_size))
    (λ k d h.
    let inside : k < length u = subst (λ l. k < l) (length-map u (residue q)) h in
    get_or-map (residue q) u k (pos 0) d inside ∙ residue_same q (at u k) (at v k) some (each k (omega arith))
    ∙ sym (get_or-map (residue q) v k (pos 0) d (omega arith)))

-- congruent factors have products with the same residues
pub product_same : (n q : ℕ) (u w v x : List ℤ) → 0 < q → ((i : ℕ) → i < n → Congruent q (at u i) (at w i)) → ((i : ℕ) → i < n → Congruent q (at v i) (at x i)) → residues q (integer_product n u v) ≡ residues q (integer_product n w x)
product_same n q u w v x some left right =
    residues_same n q (integer_product n u v) (integer_product n w x) some (length_integer_product n u v) (length_integer_product n w x)
    (λ k h.
    subst₂ (Congruent q) (sym (at_integer_product n u v k h)) (sym (at_integer_product n w x k h))
    (congruent_coefficient q n (at u) (at w) (at v) (at x) k h left right))

pub product_comm : (n q : ℕ) (a b : List ℕ) → product n q a b ≡ product n q b a
unfolding product
product_comm n q a b = ap (residues q) (integer_product_comm n (map pos a) (map pos b))

-- the product of an element and of the residues of an integer list
pub product_residues_left : (n q : ℕ) (u : List ℤ) (b : List ℕ) → 0 < q → product n q (residues q u) b ≡ residues q (integer_product n u (map pos b))
unfolding product
product_residues_left n q u b some =
    product_same n q (map pos (residues q u)) u (map pos b) (map pos b) some (λ i h. at_residues q u i some)
    (λ i h. congruent_same q (at (map pos b) i) (at (map pos b) i) refl)

pub product_residues : (n q : ℕ) (u v : List ℤ) → 0 < q → product n q (residues q u) (residues q v) ≡ residues q (integer_product n u v)
unfolding product
product_residues n q u v some =
    product_same n q (map pos (residues q u)) u (map pos (residues q v)) v some (λ i h. at_residues q u i some)
    (λ i h. at_residues q v i some)

pub product_exchange : (n q : ℕ) (a s t : List ℕ) → 0 < q → product n q (product n q a s) t ≡ product n q (product n q a t) s
product_exchange n q a s t some =
    inner s t ∙ ap (residues q) (integer_product_exchange n (map pos a) (map pos s) (map pos t)) ∙ sym (inner t s)
  where
    inner : (x y : List ℕ) → product n q (product n q a x) y ≡ residues q (integer_product n (integer_product n (map pos a) (map pos x)) (map pos y))
    inner x y =
        ap (λ p. product n q p y) (product_is_residues n q a x)
        ∙ product_residues_left n q (integer_product n (map pos a) (map pos x)) y some

pub product_add_left : (n q : ℕ) (u w v : List ℤ) → 0 < q → product n q (residues q (added n u w)) (residues q v) ≡ residues q (added n (integer_product n u v) (integer_product n w v))
product_add_left n q u w v some = product_residues n q (added n u w) v some ∙ ap (residues q) (integer_product_add_left n u w v)

pub product_add_right : (n q : ℕ) (u v w : List ℤ) → 0 < q → product n q (residues q u) (residues q (added n v w)) ≡ residues q (added n (integer_product n u v) (integer_product n u w))
product_add_right n q u v w some = product_residues n q u (added n v w) some ∙ ap (residues q) (integer_product_add_right n u v w)
