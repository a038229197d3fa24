-- House rounding: a residue below q is rounded to a value in 0 .. p of its own class modulo step.
use Rattle.std.specs.Prelude.{ℕ, zero, suc, ◌+◌, ◌-◌, ◌*◌, ◌/◌, ◌%◌, Bool, ◌==◌, nat_lt, if◌then◌else◌}
use Rattle.std.specs.Prelude.{◌≡◌, ◌≢◌, ◌<◌, ◌≤◌, ◌⊎◌, ◌↔◌}

-- the first of so many numbers, from `from` on, that passes
abbrev pub least_from : ℕ → ℕ → (ℕ → Bool) → ℕ
least_from from zero passes = from
least_from from (suc many) passes = if passes from then from else least_from (suc from) many passes

-- a and b differ by a multiple of step
abbrev pub same_class : ℕ → ℕ → ℕ → Bool
same_class step a b = a % step == b % step

abbrev pub distance : ℕ → ℕ → ℕ
distance a b = (a - b) + (b - a)

-- of two places the one of less cost, and the first at a tie
abbrev pub cheaper : (ℕ → ℕ) → ℕ → ℕ → ℕ
cheaper cost i j = if nat_lt (cost j) (cost i) then j else i

-- the first place of the least among cost 0, .., cost last
abbrev pub argmin : (ℕ → ℕ) → ℕ → ℕ
argmin cost zero = zero
argmin cost (suc last) = cheaper cost (argmin cost last) (suc last)

-- the numbers that differ from x by a multiple of step, from the smallest on
abbrev pub candidate : ℕ → ℕ → ℕ → ℕ
candidate step x i = x % step + step * i

module _ (q p step : ℕ) where
  -- the least integer at or above floor(y q / p) that differs from y by a multiple of step
  abbrev pub recover : ℕ → ℕ
  recover y = least_from (y * q / p) step (λ t. same_class step t y)

  -- the candidate in 0 .. p that recovers nearest to x, the smaller at a tie
  abbrev pub round : ℕ → ℕ
  round x =
      candidate step x (argmin (λ i. distance (recover (candidate step x i)) x) ((p - x % step) / step))

  -- what it is to be recovered from y
  pub record IsRecovered (y t : ℕ) : Type 0 where
    pub above : y * q / p ≤ t
    pub class : t % step ≡ y % step
    pub least : (s : ℕ) → y * q / p ≤ s → s % step ≡ y % step → t ≤ s

  -- what it is to be the rounded value of x
  pub record IsRounded (x y : ℕ) : Type 0 where
    pub range : y ≤ p
    pub class : y % step ≡ x % step
    pub nearest : (z : ℕ) → z ≤ p → z % step ≡ x % step
        → distance (recover y) x ≤ distance (recover z) x
    pub smallest : (z : ℕ) → z ≤ p → z % step ≡ x % step
        → distance (recover z) x ≡ distance (recover y) x → y ≤ z

  -- another value of the class of x recovers as near to x as y does
  abbrev pub Tied : ℕ → ℕ → Type 0
  Tied x y = (z : ℕ) × (z ≤ p) × (z % step ≡ x % step) × (z ≢ y)
      × (distance (recover z) x ≡ distance (recover y) x)

  -- x lies midway between what y and the next value of its class recover to
  abbrev pub Midway : ℕ → ℕ → Type 0
  Midway x y = (y + step ≤ p) × (recover y + recover (y + step) ≡ 2 * x)

-- for every p from 1 to below q and every step, recovering and rounding are what they are called
abbrev pub RoundingIsNearest : Type 0
RoundingIsNearest = (q p step : ℕ) → 0 < p → p < q → (step ≡ 1) ⊎ (step ≡ 2)
    → ((y : ℕ) → IsRecovered q p step y (recover q p step y))
    × ((x : ℕ) → IsRounded q p step x (round q p step x))

-- another value is as near as the rounded one exactly where x lies midway between that and the next
abbrev pub TieIsMidway : Type 0
TieIsMidway = (q p step : ℕ) → 0 < p → p < q → (step ≡ 1) ⊎ (step ≡ 2) → (x : ℕ)
    → (Tied q p step x (round q p step x) ↔ Midway q p step x (round q p step x))
