-- The floor of y q / p: how it grows with y, and the largest y at which it is at most x.
use Rattle.std.specs.Prelude.{◌≡◌, ℕ, ◌+◌, ◌-◌, ◌*◌, ◌/◌, ◌%◌, ◌^◌, ◌<◌, ◌≤◌}
use Rattle.std.proofs.Common.{sym, ap, ◌∙◌, mod-lt, div-add-mod', div-mul-le_self}
use Rattle.std.proofs.Common.{mul-le-mul_left, mul-le-mul_right, arith}
use Rattle.std.proofs.Math.Nat.{lt-div-mul-add, mul-add-div_right, mul-div_right}
use Rattle.std.proofs.lemmas.Nat.{div_below, le-div, mul-le, mul-lt}

-- with gap = q / p, the quotient of x by gap, and how far (x + 1) p falls short of one more than that,
-- times q
abbrev pub whole : ℕ → ℕ → ℕ → ℕ
whole q p x = x / (q / p)

abbrev pub short : ℕ → ℕ → ℕ → ℕ
short q p x = whole q p x * (q % p) + (q - (x % (q / p) + 1) * p)

module _ (q p : ℕ) (parts : 0 < p) (less : p < q) where
  pub floor_parts : (y : ℕ) → y * (q / p) + y * (q % p) / p ≡ y * q / p
  floor_parts y =
      let split : y * (q / p) * p + y * (q % p) ≡ y * q =
      omega (arith, ap (λ n. y * n) (div-add-mod' q p)) in
      sym (mul-add-div_right parts (y * (q / p)) (y * (q % p))) ∙ ap (λ n. n / p) split

  -- it grows at least as y does
  pub floor_grows : (y k z : ℕ) → y + k ≤ z → y * q / p + k ≤ z * q / p
  floor_grows y k z h =
      let slope = mul-le-mul_left {m = p} {n = q} k (omega arith) in
      le-div (y * q / p + k) (z * q) p parts
      (omega (arith, div-mul-le_self (y * q) p, slope, mul-le-mul_right q h))

  -- and at most m times as fast, where q / p is at most m
  pub floor_gap : (m : ℕ) → q ≤ p * m → (y k z : ℕ) → z ≤ y + k → z * q / p ≤ y * q / p + k * m
  floor_gap m slope y k z h =
      let below : y * q < y * q / p * p + p = lt-div-mul-add parts in
      omega (
        arith,
        div_below (z * q) p (y * q / p + k * m + 1) parts
            (omega (arith, mul-le-mul_right q h, mul-le-mul_left k slope)),
      )

  pub floor_most : (y : ℕ) → y ≤ p → y * q / p ≤ q
  floor_most y h =
      let whole = mul-div_right q parts in
      let grows = floor_grows y 0 p (omega arith) in
      omega arith

  module _ (x : ℕ) (below : x < q) where
    gap_least : 0 < q / p
    gap_least = le-div 1 q p parts (omega arith)

    pub product_below : p < 2 ^ 15 → whole q p x * (q % p) < 2 ^ 31
    product_below small =
        let over : q < q / p * p + p = lt-div-mul-add parts in
        let twice = div_below x (q / p) (2 * p) gap_least (omega (arith, mul-le-mul_left p gap_least)) in
        omega (
          arith,
          mul-lt (whole q p x) (q % p) (2 * p) p twice (mod-lt q parts),
          mul-le p p (2 ^ 15) (2 ^ 15) (omega arith) (omega arith),
        )

    pub part_within : (x % (q / p) + 1) * p ≤ q
    part_within = omega (arith, mul-le-mul_right p (mod-lt x gap_least), div-mul-le_self q p)

    short_is : (x + 1) * p + short q p x ≡ (whole q p x + 1) * q
    short_is =
        let part = part_within in
        omega (arith, ap (λ n. whole q p x * n) (div-add-mod' q p), ap (λ n. n * p) (div-add-mod' x (q / p)))

    pub short_within : short q p x / q ≤ whole q p x
    short_within =
        let is = short_is in
        omega (arith, div_below (short q p x) q (whole q p x + 1) (omega arith) (omega arith))

    last_split : (whole q p x - short q p x / q) * q + short q p x / q * q ≡ whole q p x * q
    last_split =
        let sum : whole q p x - short q p x / q + short q p x / q ≡ whole q p x =
        omega (arith, short_within) in
        omega (arith, ap (λ n. n * q) sum)

    pub last_at_most : (whole q p x - short q p x / q) * q / p ≤ x
    last_at_most =
        let modulus : 0 < q = omega arith in
        let over : short q p x < short q p x / q * q + q = lt-div-mul-add modulus in
        omega (
          arith,
          div_below ((whole q p x - short q p x / q) * q) p (x + 1) parts
              (omega (arith, short_is, last_split)),
        )

    pub last_next_above : x < (whole q p x - short q p x / q + 1) * q / p
    last_next_above =
        let under = div-mul-le_self (short q p x) q in
        omega (
          arith,
          le-div (x + 1) ((whole q p x - short q p x / q + 1) * q) p parts
              (omega (arith, short_is, last_split)),
        )

pub ruleset last_steps = (product_below, short_within, last_at_most, last_next_above)
