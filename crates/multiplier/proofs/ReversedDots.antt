-- The sums of the schoolbook: the front of the two lists and the rest of them, each with the right list in reverse.
use Rattle.std.proofs.Common.{◌≡◌, ℕ, zero, suc, ◌+◌, ◌-◌, ◌*◌, ◌%◌, ◌^◌, ◌<◌, ◌≤◌, List, length, get_or, take, zip, reverse, sum_by, refl, sym, ap, ◌∙◌, ap₂, add-one, mul_assoc, arith}
use Rattle.std.proofs.Math.Seq.{take-length}
use Rattle.std.proofs.lemmas.Nat.{mul-le}
use Rattle.std.specs.List.{between}
use Rattle.std.proofs.lemmas.List.{get_or-reverse, length-reverse}
use Rattle.std.proofs.lemmas.List.Edits.{length-between, get_or-between}
use Rattle.std.proofs.lemmas.List.Sums.{sum_by_more}
use Rattle.std.proofs.lemmas.Slice.Zip.{length-zip, get_or-zip}
use Rattle.ring.specs.declared.degree.TheConstants.{LARGEST_DEGREE}
use Rattle.multiplier.specs.Sums.{AreFactors, nat_sum, coefficient_mod}
use Rattle.multiplier.proofs.Coefficients.{difference_is_coefficient}
use Rattle.multiplier.proofs.NaturalSums.{nat_sum_same, nat_sum_bound}

-- the sum of left_i right_j over i + j = m - 1, for two lists of m numbers
abbrev pub reversed_sum : (left right : List ℕ) → ℕ
reversed_sum left right = sum_by (λ p. p.0 * p.1) (zip left (reverse right))

module _ (left right : List ℕ) (long : length right ≡ length left) where
  pairs_long : length (zip left (reverse right)) ≡ length left
  pairs_long = length-zip left (reverse right) ∙ simp length-reverse (omega arith)

  pair_at : (i : ℕ) → i < length left → get_or (zip left (reverse right)) i (0, 0) ≡ (get_or left i 0, get_or right (length left - 1 - i) 0)
  pair_at i lt =
      get_or-zip left (reverse right) i (0, 0) lt (simp length-reverse (omega arith))
      ∙ ap (λ (y : ℕ). (get_or left i 0, y)) (get_or-reverse right i 0 (omega arith) ∙ ap (λ (n : ℕ). get_or right (n - 1 - i) 0) long)

  front_of_sum : (m : ℕ) → m ≤ length left → sum_by (λ (p : ℕ × ℕ). p.0 * p.1) (take m (zip left (reverse right))) ≡ nat_sum m (λ i. get_or left i 0 * get_or right (length left - 1 - i) 0)
  unfolding nat_sum
  front_of_sum zero most = refl
  front_of_sum (suc m) most =
      let more = sum_by_more (λ (p : ℕ × ℕ). p.0 * p.1) (zip left (reverse right)) m (0, 0) (omega (arith, pairs_long)) in
      let term = ap (λ (p : ℕ × ℕ). p.0 * p.1) (pair_at m (omega arith)) in
      rw (← add-one) (more ∙ ap₂ (λ (a b : ℕ). a + b) (front_of_sum m (omega arith)) term)

  reversed_sum_is : reversed_sum left right ≡ nat_sum (length left) (λ i. get_or left i 0 * get_or right (length left - 1 - i) 0)
  reversed_sum_is =
      ap (sum_by (λ (p : ℕ × ℕ). p.0 * p.1)) (sym (take-length (zip left (reverse right))) ∙ ap (λ (m : ℕ). take m (zip left (reverse right))) pairs_long)
      ∙ front_of_sum (length left) (omega arith)

module _ (q : ℕ) (left right : List ℕ) (f : AreFactors q left right) where
  -- a part of the two lists
  part_sum : (a e : ℕ) → a ≤ e → e ≤ length left
      → reversed_sum (between a e left) (between a e right) ≡ nat_sum (e - a) (λ t. get_or left (a + t) 0 * get_or right (e - 1 - t) 0)
  part_sum a e order inside =
      let left_long = length-between left a e inside in
      let right_long = length-between right a e (omega (arith, f.long)) in
      reversed_sum_is (between a e left) (between a e right) (omega arith)
      ∙ ap (λ (m : ℕ). nat_sum m (λ i. get_or (between a e left) i 0 * get_or (between a e right) (m - 1 - i) 0)) left_long
      ∙ nat_sum_same (λ i. get_or (between a e left) i 0 * get_or (between a e right) (e - a - 1 - i) 0) (λ t. get_or left (a + t) 0 * get_or right (e - 1 - t) 0) (e - a)
      (λ i lt.
      let back : a + (e - a - 1 - i) ≡ e - 1 - i = omega arith in
      ap₂ (λ (x y : ℕ). x * y)
      (get_or-between left a e i 0 (omega arith))
      (get_or-between right a e (e - a - 1 - i) 0 (omega arith) ∙ ap (λ (j : ℕ). get_or right j 0) back))

  -- so many products below q^2
  part_most : (a e : ℕ) → a ≤ e → e ≤ length left → reversed_sum (between a e left) (between a e right) ≤ length left * (q * q)
  part_most a e order inside =
      let each = nat_sum_bound (λ t. get_or left (a + t) 0 * get_or right (e - 1 - t) 0) (e - a) (q * q)
      (λ t lt.
      mul-le (get_or left (a + t) 0) (get_or right (e - 1 - t) 0) q q
      (omega (arith, f.left_below (a + t) 0 (omega arith)))
      (omega (arith, f.right_below (e - 1 - t) 0 (omega (arith, f.long))))) in
      omega (arith, part_sum a e order inside, each, mul-le (e - a) (q * q) (length left) (q * q) (omega arith) (omega arith))

  -- at most 1024 products below 2^46 stay below 2^56
  part_fits : (a e : ℕ) → a ≤ e → e ≤ length left → reversed_sum (between a e left) (between a e right) ≤ 2 ^ 56
  part_fits a e order inside =
      let square : q * q ≤ 2 ^ 23 * 2 ^ 23 = mul-le q q (2 ^ 23) (2 ^ 23) (omega (arith, f.is_modulus.below)) (omega (arith, f.is_modulus.below)) in
      omega (arith, part_most a e order inside, mul-le (length left) (q * q) LARGEST_DEGREE (2 ^ 23 * 2 ^ 23) f.short square)

  module _ (k : ℕ) (inside : k < length left) where
    -- k + 1 numbers of each list
    front_is : reversed_sum (take (k + 1) left) (take (k + 1) right) ≡ reversed_sum (between 0 (k + 1) left) (between 0 (k + 1) right)
    front_is =
        let whole : k + 1 ≡ k + 1 - 0 = omega arith in
        ap (λ (m : ℕ). reversed_sum (take m left) (take m right)) whole

    -- and the rest of them
    rest_is : reversed_sum (between (k + 1) (length left) left) (between (k + 1) (length right) right) ≡ reversed_sum (between (k + 1) (length left) left) (between (k + 1) (length left) right)
    rest_is = ap (λ (e : ℕ). reversed_sum (between (k + 1) (length left) left) (between (k + 1) e right)) f.long

    pub front_fits : reversed_sum (take (k + 1) left) (take (k + 1) right) < 2 ^ 64
    front_fits = omega (arith, front_is, part_fits 0 (k + 1) (omega arith) (omega arith))

    pub rest_fits : reversed_sum (between (k + 1) (length left) left) (between (k + 1) (length right) right) < 2 ^ 64
    rest_fits = omega (arith, rest_is, part_fits (k + 1) (length left) (omega arith) (omega arith))

    module _ (plus minus : ℕ) (plus_is : plus ≡ reversed_sum (take (k + 1) left) (take (k + 1) right)) (minus_is : minus ≡ reversed_sum (between (k + 1) (length left) left) (between (k + 1) (length right) right)) where
      pub lifted_fits : plus + length left * q * q < 2 ^ 64
      lifted_fits =
          let square : q * q ≤ 2 ^ 23 * 2 ^ 23 = mul-le q q (2 ^ 23) (2 ^ 23) (omega (arith, f.is_modulus.below)) (omega (arith, f.is_modulus.below)) in
          omega (arith, plus_is, front_is, part_fits 0 (k + 1) (omega arith) (omega arith), mul_assoc (length left) q q, mul-le (length left) (q * q) LARGEST_DEGREE (2 ^ 23 * 2 ^ 23) f.short square)

      pub enough : minus ≤ plus + length left * q * q
      enough = omega (arith, minus_is, rest_is, part_most (k + 1) (length left) (omega arith) (omega arith), mul_assoc (length left) q q)

      -- the pairs with i + j = k, raised by n q q, less those with i + j = k + n
      pub difference_of_parts : (plus + length left * q * q - minus) % q ≡ coefficient_mod (length left) q left right k
      difference_of_parts =
          let n = length left in
          let whole : k + 1 - 0 ≡ k + 1 = omega arith in
          difference_is_coefficient q left right k (omega (arith, f.is_modulus.at_least)) f.long inside plus minus (n * q)
          (plus_is ∙ front_is ∙ part_sum 0 (k + 1) (omega arith) (omega arith)
          ∙ ap (λ (m : ℕ). nat_sum m (λ t. get_or left (0 + t) 0 * get_or right (k + 1 - 1 - t) 0)) whole
          ∙ nat_sum_same (λ t. get_or left (0 + t) 0 * get_or right (k + 1 - 1 - t) 0) (λ t. get_or left t 0 * get_or right (k - t) 0) (k + 1)
          (λ t lt.
          let here : 0 + t ≡ t = omega arith in
          let there : k + 1 - 1 - t ≡ k - t = omega arith in
          ap₂ (λ (i j : ℕ). get_or left i 0 * get_or right j 0) here there))
          (minus_is ∙ rest_is ∙ part_sum (k + 1) n (omega arith) (omega arith))
          enough
