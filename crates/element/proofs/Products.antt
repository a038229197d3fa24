-- The product of integer polynomials modulo x^n + 1, as functions from the index to the coefficient.
use Rattle.std.proofs.Common.{◌≡◌, ℕ, suc, ◌+◌, ◌-◌, ◌<◌, ◌≤◌, Bool, true, false, cond, leb, ℤ, pos, ◌+ℤ◌, ◌*ℤ◌, neg_ℤ, sym, refl, ap, ◌∙◌, subst₂, ⊎_elim, add_comm, arith}
use lib.IntN.{*ℤ_comm, neg_ℤ-neg_ℤ, zero-*ℤ}
use Rattle.std.proofs.lemmas.Bool.{cond-true, cond-false, le-leb, lt-leb, cases_lt}
use Rattle.element.specs.Products.{sum_to, shifted, coefficient}
use Rattle.element.proofs.FiniteSums.{sum_to_same, sum_to_add, sum_to_times, sum_to_neg, sum_to_exchange, sum_to_split, sum_to_reversed, sum_to_alone}
use Rattle.element.proofs.Integers.{one_times, times_add_left, times_neg_right, times_assoc, times_exchange}
use Rattle.element.proofs.Shapes.{coefficient_is}

pub shifted_low : (n : ℕ) (v : ℕ → ℤ) (k i : ℕ) → i ≤ k → shifted n v k i ≡ v (k - i)
shifted_low n v k i h = cond-true (leb i k) (v (k - i)) (neg_ℤ (v (k + n - i))) (le-leb i k h)

pub shifted_high : (n : ℕ) (v : ℕ → ℤ) (k i : ℕ) → k < i → shifted n v k i ≡ neg_ℤ (v (k + n - i))
shifted_high n v k i h = cond-false (leb i k) (v (k - i)) (neg_ℤ (v (k + n - i))) (lt-leb i k h)

-- a relation that negation keeps carries over from the coefficients to what u_i is multiplied by
pub shifted_related : (R : ℤ → ℤ → Type 0) (n : ℕ) (v w : ℕ → ℤ) (k i : ℕ) → ((x y : ℤ) → R x y → R (neg_ℤ x) (neg_ℤ y)) → k < n → i < n → ((m : ℕ) → m < n → R (v m) (w m)) → R (shifted n v k i) (shifted n w k i)
shifted_related R n v w k i negated k< i< related =
    ⊎_elim
    (λ high.
    subst₂ R (sym (shifted_high n v k i high)) (sym (shifted_high n w k i high))
    (negated (v (k + n - i)) (w (k + n - i)) (related (k + n - i) (omega arith))))
    (λ low. subst₂ R (sym (shifted_low n v k i low)) (sym (shifted_low n w k i low)) (related (k - i) (omega arith)))
    (cases_lt k i)

pub shifted_same : (n : ℕ) (v w : ℕ → ℤ) (k i : ℕ) → k < n → i < n → ((m : ℕ) → m < n → v m ≡ w m) → shifted n v k i ≡ shifted n w k i
shifted_same n v w k i k< i< same = shifted_related (λ x y. x ≡ y) n v w k i (λ x y e. ap neg_ℤ e) k< i< same

pub shifted_times : (n : ℕ) (c : ℤ) (v : ℕ → ℤ) (k i : ℕ) → shifted n (λ m. c *ℤ v m) k i ≡ c *ℤ shifted n v k i
shifted_times n c v k i = either (leb i k) (v (k - i)) (v (k + n - i))
  where
    either : (t : Bool) (a b : ℤ) → cond t (c *ℤ a) (neg_ℤ (c *ℤ b)) ≡ c *ℤ cond t a (neg_ℤ b)
    either true a b = refl
    either false a b = sym (times_neg_right c b)

pub shifted_sum : (n l : ℕ) (f : ℕ → ℕ → ℤ) (k i : ℕ) → shifted n (λ m. sum_to l (λ j. f j m)) k i ≡ sum_to l (λ j. shifted n (f j) k i)
shifted_sum n l f k i = either (leb i k) (k - i) (k + n - i)
  where
    either : (t : Bool) (a b : ℕ) → cond t (sum_to l (λ j. f j a)) (neg_ℤ (sum_to l (λ j. f j b))) ≡ sum_to l (λ j. cond t (f j a) (neg_ℤ (f j b)))
    either true a b = refl
    either false a b = sym (sum_to_neg l (λ j. f j b))

-- v_j with i + j = k, or with k + n or k + 2 n for k, with the sign of as many wraps
turned : ℕ → (ℕ → ℤ) → ℕ → ℕ → ℤ
turned n v k s = cond (leb s k) (v (k - s)) (cond (leb s (k + n)) (neg_ℤ (v (k + n - s))) (v (k + n + n - s)))

-- to shift by i and then by j is to go i + j back
shifted_twice : (n : ℕ) (v : ℕ → ℤ) (k i j : ℕ) → k < n → i < n → j < n → shifted n (λ m. shifted n v m i) k j ≡ turned n v k (i + j)
unfolding turned
shifted_twice n v k i j k< i< j< =
    let after = λ (m : ℕ). shifted n v m i in
    let s = i + j in
    let second = cond (leb s (k + n)) (neg_ℤ (v (k + n - s))) (v (k + n + n - s)) in
    ⊎_elim
    (λ j_high.
    let beyond : turned n v k s ≡ second = cond-false (leb s k) (v (k - s)) second (lt-leb s k (omega arith)) in
    ⊎_elim
    (λ i_high.
    shifted_high n after k j j_high ∙ ap neg_ℤ (shifted_high n v (k + n - j) i i_high)
    ∙ neg_ℤ-neg_ℤ (v (k + n - j + n - i)) ∙ ap v (omega arith)
    ∙ sym (beyond ∙ cond-false (leb s (k + n)) (neg_ℤ (v (k + n - s))) (v (k + n + n - s)) (lt-leb s (k + n) (omega arith))))
    (λ i_low.
    shifted_high n after k j j_high ∙ ap neg_ℤ (shifted_low n v (k + n - j) i i_low) ∙ ap (λ m. neg_ℤ (v m)) (omega arith)
    ∙ sym (beyond ∙ cond-true (leb s (k + n)) (neg_ℤ (v (k + n - s))) (v (k + n + n - s)) (le-leb s (k + n) (omega arith))))
    (cases_lt (k + n - j) i))
    (λ j_low.
    ⊎_elim
    (λ i_high.
    let beyond : turned n v k s ≡ second = cond-false (leb s k) (v (k - s)) second (lt-leb s k (omega arith)) in
    shifted_low n after k j j_low ∙ shifted_high n v (k - j) i i_high ∙ ap (λ m. neg_ℤ (v m)) (omega arith)
    ∙ sym (beyond ∙ cond-true (leb s (k + n)) (neg_ℤ (v (k + n - s))) (v (k + n + n - s)) (le-leb s (k + n) (omega arith))))
    (λ i_low.
    shifted_low n after k j j_low ∙ shifted_low n v (k - j) i i_low ∙ ap v (omega arith)
    ∙ sym (cond-true (leb s k) (v (k - s)) second (le-leb s k (omega arith))))
    (cases_lt (k - j) i))
    (cases_lt k j)

pub shifted_exchange : (n : ℕ) (v : ℕ → ℤ) (k i j : ℕ) → k < n → i < n → j < n → shifted n (λ m. shifted n v m i) k j ≡ shifted n (λ m. shifted n v m j) k i
shifted_exchange n v k i j k< i< j< =
    shifted_twice n v k i j k< i< j< ∙ ap (turned n v k) (add_comm i j) ∙ sym (shifted_twice n v k j i k< j< i<)

pub coefficient_same : (n : ℕ) (u w v x : ℕ → ℤ) (k : ℕ) → k < n → ((i : ℕ) → i < n → u i ≡ w i) → ((i : ℕ) → i < n → v i ≡ x i) → coefficient n u v k ≡ coefficient n w x k
unfolding coefficient
coefficient_same n u w v x k k< left right =
    sum_to_same n (λ i. u i *ℤ shifted n v k i) (λ i. w i *ℤ shifted n x k i)
    (λ i h t. left i h t *ℤ shifted_same n v x k i k< h right t)

pub coefficient_add_left : (n : ℕ) (u w v : ℕ → ℤ) (k : ℕ) → coefficient n (λ i. u i +ℤ w i) v k ≡ coefficient n u v k +ℤ coefficient n w v k
unfolding coefficient
coefficient_add_left n u w v k =
    sum_to_same n (λ i. (u i +ℤ w i) *ℤ shifted n v k i) (λ i. u i *ℤ shifted n v k i +ℤ w i *ℤ shifted n v k i)
    (λ i h. times_add_left (u i) (w i) (shifted n v k i))
    ∙ sum_to_add n (λ i. u i *ℤ shifted n v k i) (λ i. w i *ℤ shifted n v k i)

pub coefficient_times_left : (n : ℕ) (c : ℤ) (u v : ℕ → ℤ) (k : ℕ) → coefficient n (λ i. c *ℤ u i) v k ≡ c *ℤ coefficient n u v k
unfolding coefficient
coefficient_times_left n c u v k =
    sum_to_same n (λ i. c *ℤ u i *ℤ shifted n v k i) (λ i. c *ℤ (u i *ℤ shifted n v k i))
    (λ i h. times_assoc c (u i) (shifted n v k i))
    ∙ sum_to_times n c (λ i. u i *ℤ shifted n v k i)

-- to multiply by x^j is to shift by j
pub coefficient_monomial : (n j : ℕ) (u v : ℕ → ℤ) (k : ℕ) → j < n → u j ≡ pos 1 → ((i : ℕ) → (i ≡ j → ⊥) → u i ≡ pos 0) → coefficient n u v k ≡ shifted n v k j
unfolding coefficient
coefficient_monomial n j u v k j< one others =
    sum_to_alone n j (λ i. u i *ℤ shifted n v k i) j<
    (λ i h apart. ap (λ x. x *ℤ shifted n v k i) (others i apart) ∙ zero-*ℤ (shifted n v k i))
    ∙ ap (λ x. x *ℤ shifted n v k j) one ∙ one_times (shifted n v k j)

-- the summands with i + j = k, and those with i + j = k + n
coefficient_parts : (n : ℕ) (u v : ℕ → ℤ) (k : ℕ) → k < n → coefficient n u v k ≡ sum_to (suc k) (λ i. u i *ℤ v (k - i)) +ℤ sum_to (n - suc k) (λ i. neg_ℤ (u (suc k + i) *ℤ v (n - suc i)))
unfolding coefficient
coefficient_parts n u v k k< =
    let f = λ (i : ℕ). u i *ℤ shifted n v k i in
    let l = n - suc k in
    ap (λ m. sum_to m f) (omega arith) ∙ sum_to_split (suc k) l f
    ∙ (λ t.
    sum_to_same (suc k) f (λ i. u i *ℤ v (k - i)) (λ i h. ap (λ x. u i *ℤ x) (shifted_low n v k i (omega arith))) t
    +ℤ sum_to_same l (λ i. f (suc k + i)) (λ i. neg_ℤ (u (suc k + i) *ℤ v (n - suc i)))
    (λ i h.
    ap (λ x. u (suc k + i) *ℤ x) (shifted_high n v k (suc k + i) (omega arith) ∙ ap (λ m. neg_ℤ (v m)) (omega arith))
    ∙ times_neg_right (u (suc k + i)) (v (n - suc i))) t)

pub coefficient_comm : (n : ℕ) (u v : ℕ → ℤ) (k : ℕ) → k < n → coefficient n u v k ≡ coefficient n v u k
coefficient_comm n u v k k< =
    let l = n - suc k in
    let low = λ (a b : ℕ → ℤ) (i : ℕ). a i *ℤ b (k - i) in
    let high = λ (a b : ℕ → ℤ) (i : ℕ). neg_ℤ (a (suc k + i) *ℤ b (n - suc i)) in
    coefficient_parts n u v k k<
    ∙ (λ t.
    (sum_to_same (suc k) (low u v) (λ i. low v u (suc k - suc i))
    (λ i h. *ℤ_comm (u i) (v (k - i)) ∙ (λ s. v (k_from i h s) *ℤ u (back i h s)))
    ∙ sum_to_reversed (suc k) (low v u)) t
    +ℤ (sum_to_same l (high u v) (λ i. high v u (l - suc i))
    (λ i h. ap neg_ℤ (*ℤ_comm (u (suc k + i)) (v (n - suc i)) ∙ (λ s. v (far i h s) *ℤ u (near i h s))))
    ∙ sum_to_reversed l (high v u)) t)
    ∙ sym (coefficient_parts n v u k k<)
  where
    k_from : (i : ℕ) → i < suc k → k - i ≡ suc k - suc i
    k_from i h = omega arith

    back : (i : ℕ) → i < suc k → i ≡ k - (suc k - suc i)
    back i h = omega arith

    far : (i : ℕ) → i < n - suc k → n - suc i ≡ suc k + (n - suc k - suc i)
    far i h = omega arith

    near : (i : ℕ) → i < n - suc k → suc k + i ≡ n - suc (n - suc k - suc i)
    near i h = omega arith

-- the product of a, s and t as a sum over the coefficients of s and of t
coefficient_twice : (n : ℕ) (a s t : ℕ → ℤ) (k : ℕ) → k < n → coefficient n (coefficient n a s) t k ≡ sum_to n (λ j. sum_to n (λ i. t j *ℤ (s i *ℤ shifted n (λ m. shifted n a m i) k j)))
coefficient_twice n a s t k k< =
    coefficient_comm n (coefficient n a s) t k k< ∙ coefficient_is n t (coefficient n a s) k
    ∙ sum_to_same n (λ j. t j *ℤ shifted n (coefficient n a s) k j) (λ j. sum_to n (λ i. t j *ℤ (s i *ℤ shifted n (λ m. shifted n a m i) k j)))
    (λ j h. ap (λ x. t j *ℤ x) (inner j h) ∙ sym (sum_to_times n (t j) (λ i. s i *ℤ shifted n (λ m. shifted n a m i) k j)))
  where
    inner : (j : ℕ) → j < n → shifted n (coefficient n a s) k j ≡ sum_to n (λ i. s i *ℤ shifted n (λ m. shifted n a m i) k j)
    inner j h =
        shifted_same n (coefficient n a s) (λ m. sum_to n (λ i. s i *ℤ shifted n a m i)) k j k< h
        (λ m l. coefficient_comm n a s m l ∙ coefficient_is n s a m)
        ∙ shifted_sum n n (λ i m. s i *ℤ shifted n a m i) k j
        ∙ sum_to_same n (λ i. shifted n (λ m. s i *ℤ shifted n a m i) k j) (λ i. s i *ℤ shifted n (λ m. shifted n a m i) k j)
        (λ i l. shifted_times n (s i) (λ m. shifted n a m i) k j)

-- two factors are multiplied in either order
pub coefficient_exchange : (n : ℕ) (a s t : ℕ → ℤ) (k : ℕ) → k < n → coefficient n (coefficient n a s) t k ≡ coefficient n (coefficient n a t) s k
coefficient_exchange n a s t k k< =
    let summand = λ (x y : ℕ → ℤ) (j i : ℕ). y j *ℤ (x i *ℤ shifted n (λ m. shifted n a m i) k j) in
    coefficient_twice n a s t k k< ∙ sum_to_exchange n n (summand s t)
    ∙ sum_to_same n (λ i. sum_to n (λ j. summand s t j i)) (λ i. sum_to n (summand t s i))
    (λ i i<. sum_to_same n (λ j. summand s t j i) (summand t s i)
    (λ j j<. times_exchange (t j) (s i) (shifted n (λ m. shifted n a m i) k j)
    ∙ ap (λ x. s i *ℤ (t j *ℤ x)) (shifted_exchange n a k i j k< i< j<)))
    ∙ sym (coefficient_twice n a t s k k<)
