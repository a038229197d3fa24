-- A residue is a tie exactly where it lies midway between its rounded value and the next.
use Rattle.std.specs.Prelude.{◌≡◌, ℕ, ◌+◌, ◌%◌, ◌<◌, ◌≤◌, ◌⊎◌}
use Rattle.std.proofs.Common.{⊎_elim, sym, ◌∙◌, le_refl, arith}
use Rattle.std.proofs.Math.Nat.{add-mod_right}
use Rattle.std.proofs.lemmas.Bool.{cases_lt}
use Rattle.house.specs.Rounding.{round, Tied, Midway}
use Rattle.house.specs.LawProofs.Classes.{class_apart}
use Rattle.house.specs.LawProofs.Roundings.{recover_up, recover_step}
use Rattle.house.proofs.Smallest.{round_is}

module _ (q p step : ℕ) (parts : 0 < p) (less : p < q) (either : (step ≡ 1) ⊎ (step ≡ 2)) where
  module _ (x : ℕ) where
    after_class : (y : ℕ) → y % step ≡ x % step → (y + step) % step ≡ x % step
    after_class y class = add-mod_right y step ∙ class

    -- a value as near lies above; did it not recover to what the next value recovers to, the next would be nearer
    pub tied_midway : Tied q p step x (round q p step x) → Midway q p step x (round q p step x)
    tied_midway (z, fits, class, other, same) =
        let y = round q p step x in
        let is = round_is q p step parts less either x in
        let from : y ≤ z = is.smallest z fits class same in
        let apart : y < z = ⊎_elim (λ l. l) (λ l. absurd (other (omega arith))) (cases_lt y z) in
        let up : y + step ≤ z = class_apart step either y z (is.class ∙ sym class) apart in
        let near = is.nearest (y + step) (omega arith) (after_class y is.class) in
        let strict = recover_step q p step parts less either y (y + step) (le_refl _) in
        let mono = recover_up q p step parts less either (y + step) z up (class ∙ sym (after_class y is.class)) in
        (omega arith, omega arith)

    pub midway_tied : Midway q p step x (round q p step x) → Tied q p step x (round q p step x)
    midway_tied (room, sum) =
        let y = round q p step x in
        let strict = recover_step q p step parts less either y (y + step) (le_refl _) in
        (y + step, room, after_class y (round_is q p step parts less either x).class, (λ e. omega arith), omega arith)
