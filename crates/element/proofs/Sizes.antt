-- How large the coefficients of a product are.
use Rattle.std.proofs.Common.{◌≡◌, ℕ, zero, suc, ◌+◌, ◌*◌, ◌<◌, ◌≤◌, List, length, take, ℤ, pos, ◌+ℤ◌, ◌*ℤ◌, nat_abs, sum_by, sym, ap, ◌∙◌, subst, ⊎_elim, le_trans, mul-le-mul_left, add-one, arith}
use Rattle.std.proofs.lemmas.Int.{unsigned_abs-mul}
use Rattle.std.proofs.lemmas.List.{take_all, get_or_past}
use Rattle.std.proofs.lemmas.List.Sums.{sum_by_more, sum_by-take-le}
use Rattle.std.proofs.lemmas.Bool.{cases_lt}
use Rattle.element.specs.Products.{sum_to, at, shifted, coefficient}
use Rattle.element.proofs.FiniteSums.{sum_to_none, sum_to_suc}
use Rattle.element.proofs.Integers.{nat_abs_add, nat_abs_neg}
use Rattle.element.proofs.Products.{shifted_related, coefficient_comm}
use Rattle.element.proofs.Shapes.{coefficient_is}

-- one more size in a sum of sizes, where nothing is counted past the end
sizes_suc : (v : List ℤ) (i : ℕ) → sum_by nat_abs (take (suc i) v) ≡ sum_by nat_abs (take i v) + nat_abs (at v i)
sizes_suc v i =
    ⊎_elim
    (λ inside. ap (λ j. sum_by nat_abs (take j v)) (sym (add-one i)) ∙ sum_by_more nat_abs v i (pos 0) inside)
    (λ past.
    let none = ap nat_abs (get_or_past v i (pos 0) past) in
    let same = take_all (suc i) v (omega arith) ∙ sym (take_all i v past) in
    ap (sum_by nat_abs) same ∙ omega arith)
    (cases_lt i (length v))

-- the size of a sum of products is at most m times the sum of the sizes of v, where no w_j is larger than m
pub size_of_sum : (m : ℕ) (v : List ℤ) (w : ℕ → ℤ) (i : ℕ) → ((j : ℕ) → j < i → nat_abs (w j) ≤ m) → nat_abs (sum_to i (λ j. at v j *ℤ w j)) ≤ m * sum_by nat_abs (take i v)
size_of_sum m v w zero small = subst (λ x. nat_abs x ≤ m * 0) (sym (sum_to_none (λ j. at v j *ℤ w j))) (omega arith)
size_of_sum m v w (suc i) small =
    let f = λ (j : ℕ). at v j *ℤ w j in
    let before = size_of_sum m v w i (λ j h. small j (omega arith)) in
    let last = unsigned_abs-mul (at v i) (w i) in
    let last_small = mul-le-mul_left (nat_abs (at v i)) (small i (omega arith)) in
    let both = nat_abs_add (sum_to i f) (f i) in
    let bound : nat_abs (sum_to i f +ℤ f i) ≤ m * (sum_by nat_abs (take i v) + nat_abs (at v i)) = omega arith in
    subst (λ x. nat_abs x ≤ m * sum_by nat_abs (take (suc i) v)) (sym (sum_to_suc i f))
    (subst (λ x. nat_abs (sum_to i f +ℤ f i) ≤ m * x) (sym (sizes_suc v i)) bound)

pub size_of_coefficient : (n m : ℕ) (u v : List ℤ) (k : ℕ) → k < n → ((i : ℕ) → i < n → nat_abs (at u i) ≤ m) → nat_abs (coefficient n (at u) (at v) k) ≤ m * sum_by nat_abs v
size_of_coefficient n m u v k k< small =
    let w = shifted n (at u) k in
    let is = coefficient_comm n (at u) (at v) k k< ∙ coefficient_is n (at v) (at u) k in
    let each = λ (j : ℕ) (h : j < n). shifted_related (λ x y. nat_abs x ≤ m) n (at u) (at u) k j (λ x y l. subst (λ z. z ≤ m) (sym (nat_abs_neg x)) l) k< h small in
    let whole = mul-le-mul_left m (sum_by-take-le nat_abs v n) in
    subst (λ x. nat_abs x ≤ m * sum_by nat_abs v) (sym is) (le_trans (size_of_sum m v w n each) whole)
