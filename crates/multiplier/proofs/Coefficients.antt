-- The sums of natural numbers that the multipliers reduce have the residue of the product's coefficient.
use Rattle.std.proofs.Common.{◌≡◌, ℕ, ◌+◌, ◌-◌, ◌*◌, ◌%◌, ◌<◌, ◌≤◌, List, ◌++◌, map, length, get_or, ℤ, pos, ◌+ℤ◌, ◌*ℤ◌, neg_ℤ, sym, ap, ◌∙◌, subst, ap₂, ⊎_elim, arith}
use Rattle.std.proofs.lemmas.List.{get_or-map, get_or_past, get_or_append_left, get_or-append_right, length-map}
use Rattle.std.proofs.lemmas.Int.{ints}
use Rattle.std.proofs.lemmas.Bool.{cases_lt}
use Rattle.element.specs.Products.{at, shifted, sum_to, coefficient}
use Rattle.element.proofs.Congruences.{Congruent, congruent_same, congruent_trans, congruent_times, congruent_sum, congruent_residue, residue_same}
use Rattle.element.proofs.FiniteSums.{sum_to_same, sum_to_split, sum_to_neg}
use Rattle.element.proofs.Integers.{times_neg_right}
use Rattle.element.proofs.Products.{shifted_low, shifted_high}
use Rattle.element.proofs.Shapes.{coefficient_is}
use Rattle.ring.specs.Elements.{AllBelow}
use Rattle.multiplier.specs.Sums.{nat_sum, negated, coefficient_mod, sum_of_rows}
use Rattle.multiplier.proofs.NaturalSums.{pos_nat_sum}

pub at_pos : (xs : List ℕ) (i : ℕ) → at (map pos xs) i ≡ pos (get_or xs i 0)
at_pos xs i =
    ⊎_elim
    (λ (inside : i < length xs). get_or-map pos xs i 0 (pos 0) inside)
    (λ (past : length xs ≤ i). get_or_past (map pos xs) i (pos 0) (simp length-map past) ∙ sym (ap pos (get_or_past xs i 0 past)))
    (cases_lt i (length xs))

-- a residue negated modulo q
negated_congruent : (q y : ℕ) → 0 < q → y ≤ q → Congruent q (pos (negated q y)) (neg_ℤ (pos y))
negated_congruent q y some most =
    congruent_trans q (pos (negated q y)) (pos (q - y)) (neg_ℤ (pos y)) (congruent_residue q (pos (q - y)) some)
    (record { multiple = pos 1; apart = omega (arith, ints) })

module _ (q : ℕ) (left right : List ℕ) (k : ℕ) (some : 0 < q) (long : length right ≡ length left) (inside : k < length left) where
  -- the word that the left coefficient i meets is what it is multiplied by in the product
  word_congruent : AllBelow q right → (i : ℕ) → i < length left → Congruent q (pos (get_or (map (negated q) right ++ right) (length left - i + k) 0)) (shifted (length left) (at (map pos right)) k i)
  word_congruent below i lt =
      ⊎_elim
      (λ (high : k < i).
      let j = length left - i + k in
      let front : j < length right = omega arith in
      let word : get_or (map (negated q) right ++ right) j 0 ≡ negated q (get_or right j 0) =
      get_or_append_left (map (negated q) right) right 0 j (simp length-map front) ∙ get_or-map (negated q) right j 0 0 front in
      let place : k + length left - i ≡ j = omega arith in
      let other : shifted (length left) (at (map pos right)) k i ≡ neg_ℤ (pos (get_or right j 0)) =
      shifted_high (length left) (at (map pos right)) k i high ∙ ap neg_ℤ (ap (at (map pos right)) place ∙ at_pos right j) in
      subst (λ (z : ℤ). Congruent q (pos (get_or (map (negated q) right ++ right) j 0)) z) (sym other)
      (subst (λ (w : ℕ). Congruent q (pos w) (neg_ℤ (pos (get_or right j 0)))) (sym word)
      (negated_congruent q (get_or right j 0) some (omega (arith, below j 0 front)))))
      (λ (low : i ≤ k).
      let j = length left - i + k in
      let back : j - length left ≡ k - i = omega arith in
      let word : get_or (map (negated q) right ++ right) j 0 ≡ get_or right (k - i) 0 =
      get_or-append_right (map (negated q) right) right (length left) j 0 (simp length-map long) (omega arith) ∙ ap (λ (m : ℕ). get_or right m 0) back in
      let other : shifted (length left) (at (map pos right)) k i ≡ pos (get_or right (k - i) 0) =
      shifted_low (length left) (at (map pos right)) k i low ∙ at_pos right (k - i) in
      congruent_same q _ _ (ap pos word ∙ sym other))
      (cases_lt k i)

  pub row_sum_is_coefficient : AllBelow q right → sum_of_rows left (map (negated q) right ++ right) (length left) k % q ≡ coefficient_mod (length left) q left right k
  row_sum_is_coefficient below =
      let u = at (map pos left) in
      let v = at (map pos right) in
      let g : ℕ → ℕ = λ i. get_or left i 0 * get_or (map (negated q) right ++ right) (length left - i + k) 0 in
      let f : ℕ → ℤ = λ i. u i *ℤ shifted (length left) v k i in
      let terms : Congruent q (sum_to (length left) (λ i. pos (g i))) (sum_to (length left) f) =
      congruent_sum q (length left) (λ i. pos (g i)) f
      (λ i lt. congruent_times q (pos (get_or left i 0)) (u i) (pos (get_or (map (negated q) right ++ right) (length left - i + k) 0)) (shifted (length left) v k i)
      (congruent_same q (pos (get_or left i 0)) (u i) (sym (at_pos left i))) (word_congruent below i lt)) in
      residue_same q (pos (nat_sum (length left) g)) (coefficient (length left) u v k) some
      (subst (λ (z : ℤ). Congruent q (pos (nat_sum (length left) g)) z) (sym (coefficient_is (length left) u v k))
      (subst (λ (z : ℤ). Congruent q z (sum_to (length left) f)) (sym (pos_nat_sum g (length left))) terms))

  -- the pairs with i + j = k, less those with i + j = k + n
  difference : coefficient (length left) (at (map pos left)) (at (map pos right)) k
      ≡ pos (nat_sum (k + 1) (λ t. get_or left t 0 * get_or right (k - t) 0)) +ℤ neg_ℤ (pos (nat_sum (length left - (k + 1)) (λ t. get_or left (k + 1 + t) 0 * get_or right (length left - 1 - t) 0)))
  difference =
      let n = length left in
      let u = at (map pos left) in
      let v = at (map pos right) in
      let f : ℕ → ℤ = λ i. u i *ℤ shifted n v k i in
      let low : ℕ → ℕ = λ t. get_or left t 0 * get_or right (k - t) 0 in
      let high : ℕ → ℕ = λ t. get_or left (k + 1 + t) 0 * get_or right (n - 1 - t) 0 in
      let whole : n ≡ k + 1 + (n - (k + 1)) = omega arith in
      coefficient_is n u v k ∙ ap (λ (m : ℕ). sum_to m f) whole ∙ sum_to_split (k + 1) (n - (k + 1)) f
      ∙ ap₂ (λ (a b : ℤ). a +ℤ b)
      (sum_to_same (k + 1) f (λ t. pos (low t))
      (λ t lt. ap₂ (λ (a b : ℤ). a *ℤ b) (at_pos left t) (shifted_low n v k t (omega arith) ∙ at_pos right (k - t)))
      ∙ sym (pos_nat_sum low (k + 1)))
      (sum_to_same (n - (k + 1)) (λ t. f (k + 1 + t)) (λ t. neg_ℤ (pos (high t)))
      (λ t lt.
      let place : k + n - (k + 1 + t) ≡ n - 1 - t = omega arith in
      ap₂ (λ (a b : ℤ). a *ℤ b) (at_pos left (k + 1 + t)) (shifted_high n v k (k + 1 + t) (omega arith) ∙ ap neg_ℤ (ap v place ∙ at_pos right (n - 1 - t)))
      ∙ times_neg_right (pos (get_or left (k + 1 + t) 0)) (pos (get_or right (n - 1 - t) 0)))
      ∙ sum_to_neg (n - (k + 1)) (λ t. pos (high t)) ∙ ap neg_ℤ (sym (pos_nat_sum high (n - (k + 1)))))

  -- the difference is taken from a multiple of q
  pub difference_is_coefficient : (plus minus times : ℕ) → plus ≡ nat_sum (k + 1) (λ t. get_or left t 0 * get_or right (k - t) 0) → minus ≡ nat_sum (length left - (k + 1)) (λ t. get_or left (k + 1 + t) 0 * get_or right (length left - 1 - t) 0) → minus ≤ plus + times * q → (plus + times * q - minus) % q ≡ coefficient_mod (length left) q left right k
  difference_is_coefficient plus minus times plus_is minus_is enough =
      let exact : coefficient (length left) (at (map pos left)) (at (map pos right)) k ≡ pos plus +ℤ neg_ℤ (pos minus) =
      difference ∙ ap₂ (λ (a b : ℕ). pos a +ℤ neg_ℤ (pos b)) (sym plus_is) (sym minus_is) in
      residue_same q (pos (plus + times * q - minus)) (coefficient (length left) (at (map pos left)) (at (map pos right)) k) some
      (subst (λ (z : ℤ). Congruent q (pos (plus + times * q - minus)) z) (sym exact)
      (record { multiple = pos times; apart = omega (arith, ints) }))
