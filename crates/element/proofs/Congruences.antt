-- Integers that differ by a multiple of q, and their residues.
use Rattle.std.proofs.Common.{◌≡◌, ℕ, zero, suc, ◌/◌, ◌%◌, ◌<◌, ℤ, pos, negsuc, ◌+ℤ◌, ◌*ℤ◌, neg_ℤ, sym, refl, ap, ◌∙◌, mod-lt, arith}
use native.Mathlib.Nat.{div-add-mod}
use lib.IntN.{*ℤ_comm, +ℤ_idr, zero-*ℤ}
use Rattle.std.proofs.lemmas.Int.{ints}
use Rattle.ring.specs.Residues.{residue}
use Rattle.ring.proofs.Residues.{residue_below}
use Rattle.element.specs.Products.{sum_to, shifted, coefficient}
use Rattle.element.proofs.Integers.{times_add_left, times_neg_left, times_assoc}
use Rattle.element.proofs.Products.{shifted_related}

-- x is y and a multiple of q
pub record Congruent (q : ℕ) (x y : ℤ) : Type 0 where
  pub multiple : ℤ
  pub apart : x ≡ y +ℤ multiple *ℤ pos q

pub congruent_same : (q : ℕ) (x y : ℤ) → x ≡ y → Congruent q x y
congruent_same q x y e = record { multiple = pos 0; apart = e ∙ sym (ap (λ z. y +ℤ z) (zero-*ℤ (pos q)) ∙ +ℤ_idr y) }

pub congruent_sym : (q : ℕ) (x y : ℤ) → Congruent q x y → Congruent q y x
congruent_sym q x y c =
    let away = times_neg_left c.multiple (pos q) in
    record {
      multiple = neg_ℤ c.multiple;
      apart = from x y (c.multiple *ℤ pos q) c.apart ∙ ap (λ z. x +ℤ z) (sym away);
    }
  where
    from : (x y z : ℤ) → x ≡ y +ℤ z → y ≡ x +ℤ neg_ℤ z
    from x y z e = omega (arith, ints)

pub congruent_trans : (q : ℕ) (x y z : ℤ) → Congruent q x y → Congruent q y z → Congruent q x z
congruent_trans q x y z c d =
    record {
      multiple = c.multiple +ℤ d.multiple;
      apart = from x y z (c.multiple *ℤ pos q) (d.multiple *ℤ pos q) c.apart d.apart ∙ ap (λ m. z +ℤ m) (sym (times_add_left c.multiple d.multiple (pos q)));
    }
  where
    from : (x y z a b : ℤ) → x ≡ y +ℤ a → y ≡ z +ℤ b → x ≡ z +ℤ (a +ℤ b)
    from x y z a b e f = omega (arith, ints)

pub congruent_add : (q : ℕ) (x y z w : ℤ) → Congruent q x y → Congruent q z w → Congruent q (x +ℤ z) (y +ℤ w)
congruent_add q x y z w c d =
    record {
      multiple = c.multiple +ℤ d.multiple;
      apart = from x y z w (c.multiple *ℤ pos q) (d.multiple *ℤ pos q) c.apart d.apart ∙ ap (λ m. y +ℤ w +ℤ m) (sym (times_add_left c.multiple d.multiple (pos q)));
    }
  where
    from : (x y z w a b : ℤ) → x ≡ y +ℤ a → z ≡ w +ℤ b → x +ℤ z ≡ y +ℤ w +ℤ (a +ℤ b)
    from x y z w a b e f = omega (arith, ints)

pub congruent_neg : (q : ℕ) (x y : ℤ) → Congruent q x y → Congruent q (neg_ℤ x) (neg_ℤ y)
congruent_neg q x y c =
    record {
      multiple = neg_ℤ c.multiple;
      apart = from x y (c.multiple *ℤ pos q) c.apart ∙ ap (λ m. neg_ℤ y +ℤ m) (sym (times_neg_left c.multiple (pos q)));
    }
  where
    from : (x y a : ℤ) → x ≡ y +ℤ a → neg_ℤ x ≡ neg_ℤ y +ℤ neg_ℤ a
    from x y a e = omega (arith, ints)

congruent_times_left : (q : ℕ) (x y z : ℤ) → Congruent q x y → Congruent q (x *ℤ z) (y *ℤ z)
congruent_times_left q x y z c =
    let m = c.multiple in
    record {
      multiple = m *ℤ z;
      apart = ap (λ t. t *ℤ z) c.apart ∙ times_add_left y (m *ℤ pos q) z
          ∙ ap (λ t. y *ℤ z +ℤ t) (times_assoc m (pos q) z ∙ ap (λ t. m *ℤ t) (*ℤ_comm (pos q) z) ∙ sym (times_assoc m z (pos q)));
    }

pub congruent_times : (q : ℕ) (x y z w : ℤ) → Congruent q x y → Congruent q z w → Congruent q (x *ℤ z) (y *ℤ w)
congruent_times q x y z w c d =
    congruent_trans q (x *ℤ z) (y *ℤ z) (y *ℤ w) (congruent_times_left q x y z c)
    (congruent_trans q (y *ℤ z) (z *ℤ y) (y *ℤ w) (congruent_same q (y *ℤ z) (z *ℤ y) (*ℤ_comm y z))
    (congruent_trans q (z *ℤ y) (w *ℤ y) (y *ℤ w) (congruent_times_left q z w y d) (congruent_same q (w *ℤ y) (y *ℤ w) (*ℤ_comm w y))))

pub congruent_sum : (q m : ℕ) (f g : ℕ → ℤ) → ((i : ℕ) → i < m → Congruent q (f i) (g i)) → Congruent q (sum_to m f) (sum_to m g)
unfolding sum_to
congruent_sum q zero f g each = congruent_same q (pos 0) (pos 0) refl
congruent_sum q (suc m) f g each =
    congruent_add q (sum_to m f) (sum_to m g) (f m) (g m) (congruent_sum q m f g (λ i h. each i (omega arith))) (each m (omega arith))

-- congruent factors have congruent products
pub congruent_coefficient : (q n : ℕ) (u w v x : ℕ → ℤ) (k : ℕ) → k < n → ((i : ℕ) → i < n → Congruent q (u i) (w i)) → ((i : ℕ) → i < n → Congruent q (v i) (x i)) → Congruent q (coefficient n u v k) (coefficient n w x k)
unfolding coefficient
congruent_coefficient q n u w v x k k< left right =
    congruent_sum q n (λ i. u i *ℤ shifted n v k i) (λ i. w i *ℤ shifted n x k i)
    (λ i h.
    congruent_times q (u i) (w i) (shifted n v k i) (shifted n x k i) (left i h)
    (shifted_related (Congruent q) n v x k i (congruent_neg q) k< h right))

-- an integer is congruent to its residue
pub congruent_residue : (q : ℕ) (x : ℤ) → 0 < q → Congruent q (pos (residue q x)) x
congruent_residue q (pos a) some =
    let parts = div-add-mod a q in
    congruent_sym q (pos a) (pos (a % q)) (record { multiple = pos (a / q); apart = ap pos (omega arith) })
congruent_residue q (negsuc a) some =
    record {
      multiple = pos (suc (a / q));
      apart = let parts = div-add-mod a q in let below = mod-lt a some in omega (arith, ints);
    }

-- there is one number below q in each class
below_unique : (q r s : ℕ) → r < q → s < q → (m : ℤ) → pos r ≡ pos s +ℤ m *ℤ pos q → r ≡ s
below_unique q r s r< s< (pos zero) e = omega (arith, ints)
below_unique q r s r< s< (pos (suc m)) e = omega (arith, ints)
below_unique q r s r< s< (negsuc m) e = omega (arith, ints)

pub residue_same : (q : ℕ) (x y : ℤ) → 0 < q → Congruent q x y → residue q x ≡ residue q y
residue_same q x y some c =
    let joined = congruent_trans q (pos (residue q x)) x (pos (residue q y)) (congruent_residue q x some)
    (congruent_trans q x y (pos (residue q y)) c (congruent_sym q (pos (residue q y)) y (congruent_residue q y some))) in
    below_unique q (residue q x) (residue q y) (residue_below q x some) (residue_below q y some) joined.multiple joined.apart
