-- Sums of natural numbers: one more term, equal terms, a bound.
use Rattle.std.proofs.Common.{◌≡◌, ℕ, zero, suc, ◌+◌, ◌*◌, ◌^◌, ◌<◌, ◌≤◌, ℤ, pos, ◌+ℤ◌, refl, ap, ap₂, suc-mul, add-one, arith}
use Rattle.std.proofs.lemmas.Nat.{mul-le}
use Rattle.element.specs.Products.{sum_to}
use Rattle.ring.specs.declared.degree.TheConstants.{LARGEST_DEGREE}
use Rattle.multiplier.specs.Sums.{nat_sum}

pub nat_sum_none : (f : ℕ → ℕ) → nat_sum 0 f ≡ 0
unfolding nat_sum
nat_sum_none f = refl

pub nat_sum_more : (f : ℕ → ℕ) (i : ℕ) → nat_sum (i + 1) f ≡ nat_sum i f + f i
unfolding nat_sum
nat_sum_more f i = ap (λ (m : ℕ). nat_sum m f) (add-one i)

pub nat_sum_bound : (f : ℕ → ℕ) (m b : ℕ) → ((i : ℕ) → i < m → f i ≤ b) → nat_sum m f ≤ m * b
unfolding nat_sum
nat_sum_bound f zero b h = omega arith
nat_sum_bound f (suc m) b h =
    let rest = nat_sum_bound f m b (λ i lt. h i (omega arith)) in
    omega (arith, rest, h m (omega arith), suc-mul m b)

-- products of numbers below 2^23, 1024 of them at most, stay below 2^56
pub products_fit : (f g : ℕ → ℕ) (m : ℕ) → m ≤ LARGEST_DEGREE → ((i : ℕ) → i < m → f i < 2 ^ 23) → ((i : ℕ) → i < m → g i < 2 ^ 23) → nat_sum m (λ i. f i * g i) ≤ 2 ^ 56
products_fit f g m most left right =
    let each : nat_sum m (λ i. f i * g i) ≤ m * (2 ^ 23 * 2 ^ 23) = nat_sum_bound (λ i. f i * g i) m (2 ^ 23 * 2 ^ 23) (λ i lt. mul-le (f i) (g i) (2 ^ 23) (2 ^ 23) (omega (arith, left i lt)) (omega (arith, right i lt))) in
    omega (arith, each, mul-le m (2 ^ 23 * 2 ^ 23) LARGEST_DEGREE (2 ^ 23 * 2 ^ 23) most (omega arith))

pub nat_sum_same : (f g : ℕ → ℕ) (m : ℕ) → ((i : ℕ) → i < m → f i ≡ g i) → nat_sum m f ≡ nat_sum m g
unfolding nat_sum
nat_sum_same f g zero each = refl
nat_sum_same f g (suc m) each = ap₂ (λ (x y : ℕ). x + y) (nat_sum_same f g m (λ i lt. each i (omega arith))) (each m (omega arith))

-- the same sum over the integers
pub pos_nat_sum : (g : ℕ → ℕ) (m : ℕ) → pos (nat_sum m g) ≡ sum_to m (λ i. pos (g i))
unfolding nat_sum sum_to
pos_nat_sum g zero = refl
pos_nat_sum g (suc m) = ap (λ (z : ℤ). z +ℤ pos (g m)) (pos_nat_sum g m)
