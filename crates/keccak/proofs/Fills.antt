-- A state that is written lane by lane.
use Rattle.std.proofs.Common.{◌≡◌, ℕ, ◌+◌, ◌*◌, ◌/◌, ◌%◌, ◌<◌, List, length, get_or, set, sym, ◌∙◌, subst, inl, inr, arith, length-set}
use Rattle.std.proofs.lemmas.Bool.{cases_lt}
use Rattle.std.proofs.lemmas.Grind.{get_or-set_at}
use Rattle.std.proofs.lemmas.List.{get_or-set_other}
use Rattle.std.proofs.lemmas.List.FromFn.{fill_by_all}
use Rattle.keccak.specs.Permutation.{by_lane}

-- `out` has 25 lanes, and each lane (x, y) below n is what P allows there
pub record Filled (P : ℕ → ℕ → ℕ → Type 0) (out : List ℕ) (n : ℕ) : Type 0 where
  pub long : length out ≡ 25
  pub lanes : (k : ℕ) → k < n → P (k % 5) (k / 5) (get_or out k 0)

pub filled_more : (P : ℕ → ℕ → ℕ → Type 0) (out : List ℕ) (x y v : ℕ) → x < 5 → y < 5 → Filled P out (x + 5 * y) → P x y v → Filled P (set out (x + 5 * y) v) (x + 1 + 5 * y)
filled_more P out x y v below_x below_y before here = record {
  long = length-set out (x + 5 * y) v ∙ before.long;
  lanes = λ k h. elim (cases_lt k (x + 5 * y)) [
    | inl below ↦ subst (P (k % 5) (k / 5)) (sym (get_or-set_other out (x + 5 * y) k v 0 (λ e. omega arith))) (before.lanes k below)
    | inr above ↦
        let column : x ≡ k % 5 = omega arith in
        let row : y ≡ k / 5 = omega arith in
        let value : v ≡ get_or (set out (x + 5 * y) v) k 0 = sym (get_or-set_at out (x + 5 * y) k v 0 (omega arith) (omega arith)) in
        rw (← column, ← row, ← value) here
  ];
}

pub filled_all : (P : ℕ → ℕ → ℕ → Type 0) (f : ℕ → ℕ → ℕ) (out : List ℕ) (n : ℕ) → n ≡ 25 → Filled P out n → ((x y v : ℕ) → x < 5 → y < 5 → P x y v → v ≡ f x y) → out ≡ by_lane f
unfolding by_lane
filled_all P f out n whole all is =
    fill_by_all (λ k. f (k % 5) (k / 5)) out 25 0 all.long (λ k h. is (k % 5) (k / 5) (get_or out k 0) (omega arith) (omega arith) (all.lanes k (omega arith)))
