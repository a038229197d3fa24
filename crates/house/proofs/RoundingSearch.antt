-- How the code finds the rounded value: which value is the rounded one, by the largest value whose floor is at most x.
use Rattle.std.specs.Prelude.{◌≡◌, ℕ, ◌+◌, ◌-◌, ◌*◌, ◌/◌, ◌%◌, ◌<◌, ◌≤◌, ◌⊎◌}
use Rattle.std.proofs.Common.{⊎_elim, sym, ap, subst, ◌∙◌, le_refl, le_of_eq, mod-lt, arith}
use Rattle.std.proofs.Math.Nat.{mod-eq-sub-mod, add-mod_right, mul-div_right}
use Rattle.std.proofs.lemmas.Bool.{cases_lt, cases_order}
use Rattle.house.specs.Rounding.{recover, round, distance, IsRounded}
use Rattle.house.specs.LawProofs.Classes.{lowered, lowered_class, above_class, class_apart}
use Rattle.house.specs.LawProofs.Floors.{floor_grows}
use Rattle.house.specs.LawProofs.Roundings.{recover_is, recover_up, recover_step}
use Rattle.house.proofs.Smallest.{round_is}

module _ (q p step : ℕ) (parts : 0 < p) (less : p < q) (either : (step ≡ 1) ⊎ (step ≡ 2)) where
  -- y is rounded from x where each smaller value of the class is farther, and no larger one is nearer
  rounded_from : (x y : ℕ) → y ≤ p → y % step ≡ x % step
      → ((z : ℕ) → z % step ≡ y % step → z < y → distance (recover q p step y) x < distance (recover q p step z) x)
      → ((z : ℕ) → z ≤ p → z % step ≡ y % step → y < z → distance (recover q p step y) x ≤ distance (recover q p step z) x)
      → IsRounded q p step x y
  rounded_from x y range class below above = record {
    range = range;
    class = class;
    nearest = λ z h e.
        ⊎_elim (λ i. le_of_eq (ap (λ n. distance (recover q p step n) x) i))
        (⊎_elim (λ l. above z h (e ∙ sym class) l) (λ l. omega (arith, below z (e ∙ sym class) l)))
        (cases_order y z);
    smallest = λ z h e tie. ⊎_elim (λ l. absurd (omega (arith, below z (e ∙ sym class) l))) (λ l. l) (cases_lt z y);
  }

  -- the largest value of the class that recovers to x or below
  rounded_low : (x low : ℕ) → low ≤ p → low % step ≡ x % step → recover q p step low ≤ x
      → (low + step ≤ p → distance (recover q p step low) x ≤ distance (recover q p step (low + step)) x)
      → IsRounded q p step x low
  rounded_low x low range class under near = rounded_from x low range class
      (λ z e h. omega (arith, recover_step q p step parts less either z low (class_apart step either z low e h)))
      (λ z fits e h.
      let up = class_apart step either low z (sym e) h in
      let mono = recover_up q p step parts less either (low + step) z up (e ∙ sym (add-mod_right low step)) in
      let strict = recover_step q p step parts less either low (low + step) (le_refl _) in
      let far = near (omega arith) in
      omega arith)

  -- the smallest value of the class that recovers to x or above
  rounded_high : (x high : ℕ) → high ≤ p → high % step ≡ x % step → x ≤ recover q p step high
      → ((low : ℕ) → low + step ≡ high → distance (recover q p step high) x < distance (recover q p step low) x)
      → IsRounded q p step x high
  rounded_high x high range class over near = rounded_from x high range class
      (λ z e h.
      let up = class_apart step either z high e h in
      let low = high - step in
      let mono = recover_up q p step parts less either z low (omega arith) (sym (mod-eq-sub-mod {n = high} {m = step} (omega arith)) ∙ sym e) in
      let strict = recover_step q p step parts less either low high (omega arith) in
      let far = near low (omega arith) in
      omega arith)
      (λ z fits e h. omega (arith, recover_up q p step parts less either high z (omega arith) e))

  -- two values that are both the nearest and the smallest are equal
  pub round_unique : (x y : ℕ) → IsRounded q p step x y → y ≡ round q p step x
  round_unique x y h =
      let r = round q p step x in
      let is = round_is q p step parts less either x in
      let there = h.nearest r is.range is.class in
      let back = is.nearest y h.range h.class in
      let before = h.smallest r is.range is.class (omega arith) in
      let after = is.smallest y h.range h.class (omega arith) in
      omega arith

  -- last is the largest value whose floor is at most x
  module _ (x last : ℕ) (most : last * q / p ≤ x) (next : x < (last + 1) * q / p) where
    pub last_most : last ≤ x
    last_most = omega (arith, floor_grows q p parts less 0 last last (omega arith))

    last_within : x < q → last < p
    last_within h =
        let whole = mul-div_right q parts in
        ⊎_elim (λ l. l) (λ l. absurd (omega (arith, floor_grows q p parts less p 0 last (omega arith)))) (cases_lt last p)

    pub low_under : (last + x) % step ≤ last → recover q p step (lowered step x last) ≤ x
    low_under h =
        let low = lowered step x last in
        let grows = floor_grows q p parts less low 0 last (omega arith) in
        (recover_is q p step parts less either low).least x (omega arith) (sym (lowered_class step either x last h))

    over_next : (y : ℕ) → last < y → x < recover q p step y
    over_next y h = omega (arith, floor_grows q p parts less (last + 1) 0 y (omega arith), (recover_is q p step parts less either y).above)

    pub over_high : (last + x) % step ≤ last → x < recover q p step (lowered step x last + step)
    over_high h = over_next _ (omega (arith, mod-lt (last + x) {m = step} (omega arith)))

    -- where the class has no value at last or below, x is rounded to its first
    pub round_first : last < (last + x) % step → (last + x) % step ≡ round q p step x
    round_first h =
        let first = (last + x) % step in
        let below = mod-lt (last + x) {m = step} (omega arith) in
        round_unique x first (rounded_high x first (omega arith) (above_class step either x last h) (omega (arith, over_next first h)) (λ low e. absurd (omega arith)))

    -- and otherwise to the largest of those, or to the next
    pub round_down : (last + x) % step ≤ last → x < q
        → (lowered step x last + step ≤ p → x - recover q p step (lowered step x last) ≤ recover q p step (lowered step x last + step) - x)
        → lowered step x last ≡ round q p step x
    round_down h below near =
        let low = lowered step x last in
        let class = lowered_class step either x last h in
        let under = low_under h in
        round_unique x low (rounded_low x low (omega (arith, last_within below)) class under (λ l. omega (arith, near l)))

    pub round_up : (last + x) % step ≤ last → lowered step x last + step ≤ p
        → recover q p step (lowered step x last + step) - x < x - recover q p step (lowered step x last)
        → lowered step x last + step ≡ round q p step x
    round_up h range near =
        let low = lowered step x last in
        let class = add-mod_right low step ∙ lowered_class step either x last h in
        let above = over_high h in
        round_unique x (low + step) (rounded_high x (low + step) range class (omega arith)
        (λ z e. let is : low ≡ z = omega arith in subst (λ n. distance (recover q p step (low + step)) x < distance (recover q p step n) x) is (omega arith)))
