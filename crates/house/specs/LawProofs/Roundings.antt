-- Recovering and rounding: what is recovered, that a rounded value is a nearest one, and how far rounding
-- moves a residue.
use Rattle.std.specs.Prelude.{◌≡◌, ℕ, zero, suc, ◌+◌, ◌-◌, ◌*◌, ◌/◌}
use Rattle.std.specs.Prelude.{◌%◌, ◌<◌, ◌≤◌, ◌⊎◌, pos, ◌-ℤ◌, unsigned_abs}
use Rattle.std.proofs.Common.{⊎_elim, sym, ap, subst, ◌∙◌, le_refl, mod-lt}
use Rattle.std.proofs.Common.{mod-eq_of_lt, mul-le-mul_right, arith}
use Rattle.std.proofs.Math.Nat.{mod-le, mod-mod, mod-eq-sub-mod, add-mod_right}
use Rattle.std.proofs.Math.Nat.{add-mul-mod_self_left, mul-div_right}
use Rattle.std.proofs.lemmas.Int.{ints}
use Rattle.std.proofs.lemmas.Bool.{cases_lt}
use Rattle.std.proofs.lemmas.Bool.Decides.{nat_tests}
use Rattle.profile.specs.Laws.{MultipleWithin}
use Rattle.house.specs.Rounding.{recover, candidate, round, argmin, distance, IsRecovered}
use Rattle.house.specs.LawProofs.Classes.{by_step, next_class, next_least, distance_multiple}
use Rattle.house.specs.LawProofs.Classes.{multiple_below, place_is, place_up, place_within}
use Rattle.house.specs.LawProofs.Floors.{floor_grows, floor_gap, floor_most}

-- ---- a place of the least

pub argmin_le : (cost : ℕ → ℕ) (last : ℕ) → argmin cost last ≤ last
argmin_le cost zero = le_refl 0
argmin_le cost (suc last) = let before = argmin_le cost last in grind arith

pub argmin_least : (cost : ℕ → ℕ) (last i : ℕ) → i ≤ last → cost (argmin cost last) ≤ cost i
argmin_least cost zero i h = grind arith
argmin_least cost (suc last) i h = let before = argmin_least cost last i in grind (arith, nat_tests)

-- ---- what is recovered

pub recover_form : (q p step y : ℕ) → (step ≡ 1) ⊎ (step ≡ 2)
    → recover q p step y ≡ y * q / p + (y * q / p + y) % step
recover_form q p step y either =
    by_step (λ s. recover q p s y ≡ y * q / p + (y * q / p + y) % s) step either
    (grind (arith, nat_tests)) (grind (arith, nat_tests))

module _ (q p step : ℕ) (parts : 0 < p) (less : p < q) (either : (step ≡ 1) ⊎ (step ≡ 2)) where
  pub recover_most : (y : ℕ) → recover q p step y < y * q / p + step
  recover_most y =
      rw (recover_form q p step y either) (omega (arith, mod-lt (y * q / p + y) {m = step} (omega arith)))

  pub recover_is : (y : ℕ) → IsRecovered q p step y (recover q p step y)
  recover_is y =
      let f = y * q / p in
      subst (λ t. IsRecovered q p step y t) (sym (recover_form q p step y either)) (record {
        above = omega arith;
        class = next_class step either f y;
        least = next_least step either f y;
      })

  pub recover_range : (y : ℕ) → y ≤ p → recover q p step y < 2 * q
  recover_range y h = omega (arith, recover_most y, floor_most q p parts less y h)

  -- inside a class the recovered numbers grow
  pub recover_up : (y z : ℕ) → y ≤ z → z % step ≡ y % step → recover q p step y ≤ recover q p step z
  recover_up y z h e =
      let grows = floor_grows q p parts less y 0 z (omega arith) in
      (recover_is y).least (recover q p step z) (omega (arith, (recover_is z).above))
      ((recover_is z).class ∙ e)

  pub recover_step : (y z : ℕ) → y + step ≤ z → recover q p step y < recover q p step z
  recover_step y z h =
      omega (arith, recover_most y, floor_grows q p parts less y step z h, (recover_is z).above)

  -- ---- what is rounded: a value of the class in 0 .. p, and none of those recovers nearer

  pub round_within : (x : ℕ) → round q p step x ≤ p
  round_within x =
      let cost : ℕ → ℕ = λ i. distance (recover q p step (candidate step x i)) x in
      let last = (p - x % step) / step in
      place_within step either x p (argmin cost last) parts (argmin_le cost last)

  pub round_class : (x : ℕ) → round q p step x % step ≡ x % step
  round_class x =
      let cost : ℕ → ℕ = λ i. distance (recover q p step (candidate step x i)) x in
      let last = (p - x % step) / step in
      add-mul-mod_self_left (x % step) step (argmin cost last) ∙ mod-mod x step

  pub round_nearest : (x z : ℕ) → z ≤ p → z % step ≡ x % step
      → distance (recover q p step (round q p step x)) x ≤ distance (recover q p step z) x
  round_nearest x z h e =
      let cost : ℕ → ℕ = λ i. distance (recover q p step (candidate step x i)) x in
      let last = (p - x % step) / step in
      let place = (z - x % step) / step in
      let is : z ≡ candidate step x place = place_is step either x z e in
      subst (λ n. cost (argmin cost last) ≤ distance (recover q p step n) x) (sym is)
      (argmin_least cost last place (place_up step either x z p h))

  -- how far rounding moves a residue, where the floor grows by at most 2 rho + 1
  module _ (rho : ℕ) (gap : q ≤ p * (2 * rho + 1)) (x : ℕ) (below : x < q) where
    neighbours : (y z : ℕ) → z ≤ y + step → recover q p step z < recover q p step y + 2 * (step * rho + step)
    neighbours y z h =
        omega (
          arith,
          recover_most z,
          floor_gap q p parts less (2 * rho + 1) gap y step z h,
          (recover_is y).above,
        )

    -- y is a nearest value of the class of x
    module _ (y : ℕ) (range : y ≤ p) (class : y % step ≡ x % step)
        (nearest : (z : ℕ) → z ≤ p → z % step ≡ x % step
        → distance (recover q p step y) x ≤ distance (recover q p step z) x) where
      near_below : recover q p step y ≤ x → x < recover q p step y + step * rho + step
      near_below under = ⊎_elim at_end inside (cases_lt p (y + step))
        where
          at_end : p < y + step → x < recover q p step y + step * rho + step
          at_end l =
              let k = p - y in
              let whole = mul-div_right q parts in
              let ends = floor_gap q p parts less (2 * rho + 1) gap y k p (omega arith) in
              let small = mul-le-mul_right {m = k + 1} {n = step} (2 * rho + 1) (omega arith) in
              let two = mul-le-mul_right {m = step} {n = 2} rho (omega arith) in
              omega (arith, (recover_is y).above)

          inside : y + step ≤ p → x < recover q p step y + step * rho + step
          inside l =
              let next = nearest (y + step) l (add-mod_right y step ∙ class) in
              let strict = recover_step y (y + step) (le_refl _) in
              omega (arith, neighbours y (y + step) (le_refl _))

      near_above : x < recover q p step y → recover q p step y < x + step * rho + step
      near_above over = ⊎_elim at_start inside (cases_lt y step)
        where
          at_start : y < step → recover q p step y < x + step * rho + step
          at_start l =
              let starts = floor_gap q p parts less (2 * rho + 1) gap 0 y y (omega arith) in
              let small = mul-le-mul_right {m = y + 1} {n = step} rho (omega arith) in
              let two = mul-le-mul_right {m = step} {n = 2} rho (omega arith) in
              let first : y ≤ x = omega (arith, mod-eq_of_lt l, class, mod-le x step) in
              omega (arith, recover_most y)

          inside : step ≤ y → recover q p step y < x + step * rho + step
          inside l =
              let low = y - step in
              let next = nearest low (omega arith) (sym (mod-eq-sub-mod l) ∙ class) in
              let strict = recover_step low y (omega arith) in
              omega (arith, neighbours low y (omega arith))

      nearest_near : distance (recover q p step y) x < step * rho + step
      nearest_near =
          ⊎_elim
          (λ l. omega (arith, near_above l))
          (λ l. omega (arith, near_below l))
          (cases_lt x (recover q p step y))

    pub round_near : MultipleWithin step (step * rho) (pos (recover q p step (round q p step x)) -ℤ pos x)
    round_near =
        let y = round q p step x in
        let t = recover q p step y in
        let size : unsigned_abs (pos t -ℤ pos x) ≡ distance t x = omega (arith, ints) in
        let multiple = distance_multiple step either t x ((recover_is y).class ∙ round_class x) in
        let near = nearest_near y (round_within x) (round_class x) (round_nearest x) in
        record {
          multiple = ap (λ n. n % step) size ∙ multiple;
          size = omega (arith, multiple_below step either (distance t x) rho multiple near);
        }
