-- Of the nearest values, the rounded one is the smallest. It stands apart from the proofs of the laws, which hold however ties are broken.
use Rattle.std.specs.Prelude.{◌≡◌, ℕ, zero, suc, ◌-◌, ◌/◌, ◌%◌, ◌<◌, ◌≤◌, ◌⊎◌}
use Rattle.std.proofs.Common.{subst, mul-le-mul_left, arith}
use Rattle.std.proofs.lemmas.Bool.Decides.{nat_tests}
use Rattle.house.specs.Rounding.{recover, candidate, round, argmin, distance, IsRounded}
use Rattle.house.specs.LawProofs.Classes.{place_is, place_up}
use Rattle.house.specs.LawProofs.Roundings.{argmin_le, argmin_least, round_within, round_class, round_nearest}

pub argmin_first : (cost : ℕ → ℕ) (last i : ℕ) → i ≤ last → cost i ≡ cost (argmin cost last) → argmin cost last ≤ i
argmin_first cost zero i h e = omega arith
argmin_first cost (suc last) i h e =
    let least = argmin_least cost last i in
    let before = argmin_first cost last i in
    let within = argmin_le cost last in
    grind (arith, nat_tests)

module _ (q p step : ℕ) (parts : 0 < p) (less : p < q) (either : (step ≡ 1) ⊎ (step ≡ 2)) where
  pub round_smallest : (x z : ℕ) → z ≤ p → z % step ≡ x % step → distance (recover q p step z) x ≡ distance (recover q p step (round q p step x)) x → round q p step x ≤ z
  round_smallest x z h e tie =
      let cost : ℕ → ℕ = λ i. distance (recover q p step (candidate step x i)) x in
      let first = argmin cost ((p - x % step) / step) in
      let place = (z - x % step) / step in
      let is : z ≡ candidate step x place = place_is step either x z e in
      let before = argmin_first cost ((p - x % step) / step) place (place_up step either x z p h) (subst (λ n. distance (recover q p step n) x ≡ cost first) is tie) in
      omega (arith, is, mul-le-mul_left step before)

  pub round_is : (x : ℕ) → IsRounded q p step x (round q p step x)
  round_is x = record {
    range = round_within q p step parts less either x;
    class = round_class q p step parts less either x;
    nearest = round_nearest q p step parts less either x;
    smallest = round_smallest x;
  }
