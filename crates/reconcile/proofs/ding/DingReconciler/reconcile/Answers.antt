use Rattle.std.proofs.Common.{◌≡◌, ℕ, ◌/◌, ◌<◌, ℤ, pos, ◌+ℤ◌, ◌-ℤ◌, Ok, sym, ap, ◌∙◌, arith, w32, to_z, of_z}
use Rattle.std.proofs.lemmas.Int.{ints}
use Rattle.std.proofs.lemmas.Bool.Decides.{nat_tests}
use Rattle.ring.specs.Residues.{signed, signed_outcome}
use Rattle.profile.specs.Outcomes.{reconciled}
use Rattle.reconcile.specs.Ding.{ding_signal, ding_read, ding_functions}
use Rattle.reconcile.specs.LawProofs.Ding.{region_signal, signal_inside, signal_under, signal_over, signal_at}
use Rattle.reconcile.proofs.ding.DingReconciler.reconcile.Goals as goal
use Rattle.reconcile.proofs.ding.DingReconciler.reconcile.Goals.{in-0, in-0-2, in-0-2-2, in-1, in-1-2, in-1-2-2}

-- what a signed form that is given tells of the residue
module _ (q x : ℕ) (s : ℤ) (e : Ok s ≡ signed_outcome q x) where
  signed_below : x < q
  signed_below = grind (arith, nat_tests)

  signed_is : s ≡ signed q x
  signed_is = grind (arith, nat_tests)

both_given : (q x coin signal bit : ℕ) → x < q → coin < 2 → signal ≡ ding_signal q x coin → bit ≡ ding_read q x signal → Ok (signal, bit) ≡ reconciled q 2 (ding_signal q) (ding_functions.key_bit q) x coin
both_given q x coin signal bit below small e f = grind (arith, nat_tests)

-- an i32, as the code holds it
abbrev held : ℤ → ℤ
held z = to_z w32 (of_z w32 z)

same_signal : {a b s a' b' s' : ℤ} → a ≡ a' → b ≡ b' → s ≡ s' → region_signal a b s ≡ region_signal a' b' s'
same_signal e f g = cc

pub returns : goal.returns
returns c =
    let q = c.args.q in
    let coin = c.args.coin in
    let s = c.in_ok-s.s in
    let told = c.in_ok-s.ensures.value in
    let at : ℤ = held s in
    let at-is : at ≡ s = omega (arith, ints) in
    let r : ℤ = to_z w32 (c.value.result / 4) in
    let low-0 : ℤ = held (pos 0 -ℤ r) in
    let low-1 : ℤ = held (low-0 +ℤ pos 1) in
    let high-1 : ℤ = held (r +ℤ pos 1) in
    let by-0 : coin ≡ 0 → c.match-coin.signal ≡ region_signal low-0 r at → (coin < 2) × (c.match-coin.signal ≡ signal_at q coin s) =
    λ e f. (omega arith, f ∙ same_signal (omega (arith, ints)) (omega (arith, ints)) at-is) in
    let by-1 : coin ≡ 1 → c.match-coin.signal ≡ region_signal low-1 high-1 at → (coin < 2) × (c.match-coin.signal ≡ signal_at q coin s) =
    λ e f. (omega arith, f ∙ same_signal (omega (arith, ints)) (omega (arith, ints)) at-is) in
    let way : (coin < 2) × (c.match-coin.signal ≡ signal_at q coin s) =
    elim c.match-coin.branch [
      | in-0 w ↦ by-0 w.in-0.is (w.signal-is ∙ sym (signal_inside low-0 r at w.if-r-s.true w.if-s-r.true))
      | in-0-2 w ↦ by-0 w.in-0.is (w.signal-is ∙ sym (signal_over low-0 r at w.if-s-r.false))
      | in-0-2-2 w ↦ by-0 w.in-0.is (w.signal-is ∙ sym (signal_under low-0 r at w.if-r-s.false))
      | in-1 w ↦ by-1 w.in-1.is (w.signal-is ∙ sym (signal_inside low-1 high-1 at w.if-r-s-2.true w.if-s-r-2.true))
      | in-1-2 w ↦ by-1 w.in-1.is (w.signal-is ∙ sym (signal_over low-1 high-1 at w.if-s-r-2.false))
      | in-1-2-2 w ↦ by-1 w.in-1.is (w.signal-is ∙ sym (signal_under low-1 high-1 at w.if-r-s-2.false))
    ] in
    both_given q c.args.x coin c.match-coin.signal _ (signed_below _ _ _ told) way.0
    (way.1 ∙ ap (signal_at q coin) (signed_is _ _ _ told))
    c.key_bit.ensures
