-- Finite sums of integers: f 0 + .. + f (m - 1).
use Rattle.std.proofs.Common.{◌≡◌, ℕ, zero, suc, ◌+◌, ◌-◌, ◌<◌, ℤ, pos, ◌+ℤ◌, ◌*ℤ◌, neg_ℤ, sym, refl, ap, ◌∙◌, ⊎_elim, add-zero, add-suc, one-add, arith}
use lib.IntN.{+ℤ_idl, +ℤ_idr, +ℤ_comm, +ℤ_assoc, neg_ℤ-+ℤ, *ℤ-zero}
use Rattle.std.proofs.lemmas.Int.{ints}
use Rattle.std.proofs.lemmas.Bool.{cases_eq}
use Rattle.element.proofs.Integers.{times_add_right}
use Rattle.element.specs.Products.{sum_to}

pub sum_to_none : (f : ℕ → ℤ) → sum_to 0 f ≡ pos 0
unfolding sum_to
sum_to_none f = refl

pub sum_to_suc : (m : ℕ) (f : ℕ → ℤ) → sum_to (suc m) f ≡ sum_to m f +ℤ f m
unfolding sum_to
sum_to_suc m f = refl

-- equal summands give equal sums
pub sum_to_same : (m : ℕ) (f g : ℕ → ℤ) → ((i : ℕ) → i < m → f i ≡ g i) → sum_to m f ≡ sum_to m g
unfolding sum_to
sum_to_same zero f g same = refl
sum_to_same (suc m) f g same =
    (λ i. sum_to_same m f g (λ j h. same j (omega arith)) i +ℤ same m (omega arith) i)

pub sum_to_add : (m : ℕ) (f g : ℕ → ℤ) → sum_to m (λ i. f i +ℤ g i) ≡ sum_to m f +ℤ sum_to m g
unfolding sum_to
sum_to_add zero f g = refl
sum_to_add (suc m) f g = ap (λ x. x +ℤ (f m +ℤ g m)) (sum_to_add m f g) ∙ regroup (sum_to m f) (sum_to m g) (f m) (g m)
  where
    regroup : (w x y z : ℤ) → w +ℤ x +ℤ (y +ℤ z) ≡ w +ℤ y +ℤ (x +ℤ z)
    regroup w x y z = omega (arith, ints)

pub sum_to_times : (m : ℕ) (c : ℤ) (f : ℕ → ℤ) → sum_to m (λ i. c *ℤ f i) ≡ c *ℤ sum_to m f
unfolding sum_to
sum_to_times zero c f = sym (*ℤ-zero c)
sum_to_times (suc m) c f = ap (λ x. x +ℤ c *ℤ f m) (sum_to_times m c f) ∙ sym (times_add_right c (sum_to m f) (f m))

pub sum_to_neg : (m : ℕ) (f : ℕ → ℤ) → sum_to m (λ i. neg_ℤ (f i)) ≡ neg_ℤ (sum_to m f)
unfolding sum_to
sum_to_neg zero f = refl
sum_to_neg (suc m) f = ap (λ x. x +ℤ neg_ℤ (f m)) (sum_to_neg m f) ∙ sym (neg_ℤ-+ℤ (sum_to m f) (f m))

sum_to_zeros : (m : ℕ) → sum_to m (λ i. pos 0) ≡ pos 0
unfolding sum_to
sum_to_zeros zero = refl
sum_to_zeros (suc m) = ap (λ x. x +ℤ pos 0) (sum_to_zeros m)

-- a sum over rows is the sum over columns
pub sum_to_exchange : (m n : ℕ) (f : ℕ → ℕ → ℤ) → sum_to m (λ i. sum_to n (f i)) ≡ sum_to n (λ j. sum_to m (λ i. f i j))
sum_to_exchange zero n f =
    sum_to_none (λ i. sum_to n (f i)) ∙ sym (sum_to_zeros n)
    ∙ sum_to_same n (λ j. pos 0) (λ j. sum_to 0 (λ i. f i j)) (λ j h. sym (sum_to_none (λ i. f i j)))
sum_to_exchange (suc m) n f =
    sum_to_suc m (λ i. sum_to n (f i)) ∙ ap (λ x. x +ℤ sum_to n (f m)) (sum_to_exchange m n f)
    ∙ sym (sum_to_add n (λ j. sum_to m (λ i. f i j)) (f m))
    ∙ sum_to_same n (λ j. sum_to m (λ i. f i j) +ℤ f m j) (λ j. sum_to (suc m) (λ i. f i j)) (λ j h. sym (sum_to_suc m (λ i. f i j)))

-- a sum is the sum of its first l summands and of the rest
pub sum_to_split : (l m : ℕ) (f : ℕ → ℤ) → sum_to (l + m) f ≡ sum_to l f +ℤ sum_to m (λ i. f (l + i))
sum_to_split l zero f =
    ap (λ n. sum_to n f) (add-zero l) ∙ sym (+ℤ_idr (sum_to l f)) ∙ ap (λ x. sum_to l f +ℤ x) (sym (sum_to_none (λ i. f (l + i))))
sum_to_split l (suc m) f =
    ap (λ n. sum_to n f) (add-suc l m) ∙ sum_to_suc (l + m) f ∙ ap (λ x. x +ℤ f (l + m)) (sum_to_split l m f)
    ∙ +ℤ_assoc (sum_to l f) (sum_to m (λ i. f (l + i))) (f (l + m))
    ∙ ap (λ x. sum_to l f +ℤ x) (sym (sum_to_suc m (λ i. f (l + i))))

-- a sum is the same from its last summand to its first
pub sum_to_reversed : (m : ℕ) (f : ℕ → ℤ) → sum_to m (λ i. f (m - suc i)) ≡ sum_to m f
sum_to_reversed zero f = sum_to_none (λ i. f (0 - suc i)) ∙ sym (sum_to_none f)
sum_to_reversed (suc m) f =
    let g = λ (i : ℕ). f (suc m - suc i) in
    ap (λ n. sum_to n g) (sym (one-add m)) ∙ sum_to_split 1 m g ∙ +ℤ_comm (sum_to 1 g) (sum_to m (λ i. g (1 + i)))
    ∙ (λ t. (sum_to_same m (λ i. g (1 + i)) (λ i. f (m - suc i)) (λ i h. ap f (omega arith)) ∙ sum_to_reversed m f) t +ℤ last t)
    ∙ sym (sum_to_suc m f)
  where
    last : sum_to 1 (λ i. f (suc m - suc i)) ≡ f m
    last = sum_to_suc 0 (λ i. f (suc m - suc i)) ∙ ap (λ x. x +ℤ f (suc m - 1)) (sum_to_none (λ i. f (suc m - suc i))) ∙ +ℤ_idl (f (suc m - 1)) ∙ ap f (omega arith)

-- a sum with one summand that is not zero
pub sum_to_alone : (m j : ℕ) (f : ℕ → ℤ) → j < m → ((i : ℕ) → i < m → (i ≡ j → ⊥) → f i ≡ pos 0) → sum_to m f ≡ f j
sum_to_alone zero j f h others = absurd (omega arith)
sum_to_alone (suc m) j f h others =
    sum_to_suc m f
    ∙ ⊎_elim
    (λ last.
    ap (λ x. x +ℤ f m) (sum_to_same m f (λ i. pos 0) (λ i l. others i (omega arith) (λ e. omega arith)) ∙ sum_to_zeros m)
    ∙ +ℤ_idl (f m) ∙ ap f (sym last))
    (λ apart.
    (λ t.
    sum_to_alone m j f (omega (arith, apart)) (λ i l. others i (omega arith)) t
    +ℤ others m (omega arith) (λ e. apart (sym e)) t)
    ∙ +ℤ_idr (f j))
    (cases_eq j m)
