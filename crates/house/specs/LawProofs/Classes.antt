-- Numbers that differ by a multiple of a step, which is 1 or 2.
use Rattle.std.specs.Prelude.{◌≡◌, ℕ, ◌+◌, ◌-◌, ◌*◌, ◌/◌, ◌%◌, ◌<◌, ◌≤◌, ◌⊎◌}
use Rattle.std.proofs.Common.{inl, inr, sym, subst, arith}
use Rattle.house.specs.Rounding.{distance}

-- what holds of 1 and 2 holds of a step
pub by_step : (P : ℕ → Type 0) (step : ℕ) → (step ≡ 1) ⊎ (step ≡ 2) → P 1 → P 2 → P step
by_step P step (inl e) one two = subst P (sym e) one
by_step P step (inr e) one two = subst P (sym e) two

-- the largest number at or below y of the class of x, where there is one
abbrev pub lowered : ℕ → ℕ → ℕ → ℕ
lowered step x y = y - (y + x) % step

module _ (step : ℕ) (either : (step ≡ 1) ⊎ (step ≡ 2)) where
  -- the least number at or above f of the class of y
  pub next_class : (f y : ℕ) → (f + (f + y) % step) % step ≡ y % step
  next_class f y = by_step (λ n. (f + (f + y) % n) % n ≡ y % n) step either (omega arith) (omega arith)

  pub next_least : (f y s : ℕ) → f ≤ s → s % step ≡ y % step → f + (f + y) % step ≤ s
  next_least f y s =
      by_step (λ n. f ≤ s → s % n ≡ y % n → f + (f + y) % n ≤ s) step either (omega arith) (omega arith)

  pub lowered_class : (x y : ℕ) → (y + x) % step ≤ y → lowered step x y % step ≡ x % step
  lowered_class x y =
      by_step (λ n. (y + x) % n ≤ y → lowered n x y % n ≡ x % n) step either (omega arith) (omega arith)

  -- where there is none, the least number of that class
  pub above_class : (x y : ℕ) → y < (y + x) % step → (y + x) % step % step ≡ x % step
  above_class x y =
      by_step (λ n. y < (y + x) % n → (y + x) % n % n ≡ x % n) step either (omega arith) (omega arith)

  pub class_apart : (y z : ℕ) → y % step ≡ z % step → y < z → y + step ≤ z
  class_apart y z = by_step (λ n. y % n ≡ z % n → y < z → y + n ≤ z) step either (omega arith) (omega arith)

  pub distance_multiple : (a b : ℕ) → a % step ≡ b % step → distance a b % step ≡ 0
  distance_multiple a b =
      by_step (λ n. a % n ≡ b % n → distance a b % n ≡ 0) step either (omega arith) (omega arith)

  pub multiple_below : (d k : ℕ) → d % step ≡ 0 → d < step * k + step → d ≤ step * k
  multiple_below d k =
      by_step (λ n. d % n ≡ 0 → d < n * k + n → d ≤ n * k) step either (omega arith) (omega arith)

  -- the numbers of the class of x have the places 0, 1, .., and those up to p the places up to that of p
  pub place_is : (x z : ℕ) → z % step ≡ x % step → z ≡ x % step + step * ((z - x % step) / step)
  place_is x z =
      by_step (λ n. z % n ≡ x % n → z ≡ x % n + n * ((z - x % n) / n)) step either
      (omega arith) (omega arith)

  pub place_up : (x z p : ℕ) → z ≤ p → (z - x % step) / step ≤ (p - x % step) / step
  place_up x z p h = by_step (λ n. (z - x % n) / n ≤ (p - x % n) / n) step either (omega arith) (omega arith)

  pub place_within : (x p i : ℕ) → 0 < p → i ≤ (p - x % step) / step → x % step + step * i ≤ p
  place_within x p i some =
      by_step (λ n. i ≤ (p - x % n) / n → x % n + n * i ≤ p) step either (omega arith) (omega arith)
