-- What a call of a profile's function gave, where it was accepted.
use Rattle.std.proofs.Common.{◌≡◌, ℕ, ◌^◌, Bool, true, false, cond, ltb, leb, Ok, Err, Result, ap, arith}
use Rattle.ring.specs.declared.fault.Fault.{Fault}
use Rattle.ring.specs.declared.fault.Fault.TheVariants.{OutOfRange, CoinOutOfRange}
use Rattle.profile.specs.Outcomes.{round_outcome, recover_outcome, reconcile_outcome, read_outcome}
use Rattle.profile.specs.Laws.{Functions}
use Rattle.profile.specs.declared.numbers.Numbers.{Numbers}

-- an answer after one test, and after two
one_test : {X : Type 0} (b : Bool) (v w : X) (fault : Fault) → ◌≡◌ {A = Result X Fault} (cond b (Ok v) (Err fault)) (Ok w) → w ≡ v
one_test true v w fault e = cc
one_test false v w fault e = absurd (let z : ◌≡◌ {A = ℕ} 0 1 = cc in omega arith)

two_tests : {X : Type 0} (a b : Bool) (v w : X) (first second : Fault) → ◌≡◌ {A = Result X Fault} (cond a (cond b (Ok v) (Err second)) (Err first)) (Ok w) → w ≡ v
two_tests true b v w first second e = one_test b v w second e
two_tests false b v w first second e = absurd (let z : ◌≡◌ {A = ℕ} 0 1 = cc in omega arith)

module _ (k : Numbers) (f : Functions) where
  pub rounded : (x y : ℕ) → round_outcome k f x ≡ Ok y → y ≡ f.round x
  rounded x y e = one_test (ltb x k.q) (f.round x) y (OutOfRange 0) e

  pub recovered : (y t : ℕ) → recover_outcome k f y ≡ Ok t → t ≡ f.recover y
  recovered y t e = one_test (leb y k.p) (f.recover y) t (OutOfRange 0) e

  pub reconciled : (x coin signal bit : ℕ) → reconcile_outcome k f x coin ≡ Ok (signal, bit) → (signal ≡ f.signal x coin) × (bit ≡ f.key_bit x coin)
  reconciled x coin signal bit e =
      let both : ◌≡◌ {A = ℕ × ℕ} (signal, bit) (f.signal x coin, f.key_bit x coin) =
      two_tests (ltb x k.q) (ltb coin k.coins) (f.signal x coin, f.key_bit x coin) (signal, bit) (OutOfRange 0) (CoinOutOfRange 0) e in
      (ap (λ (p : ℕ × ℕ). p.0) both, ap (λ (p : ℕ × ℕ). p.1) both)

  pub key_bit_read : (y signal bit : ℕ) → read_outcome k f y signal ≡ Ok bit → bit ≡ f.read y signal
  key_bit_read y signal bit e =
      two_tests (ltb y k.q) (ltb signal (2 ^ k.signal_width)) (f.read y signal) bit (OutOfRange 0) (OutOfRange 0) e
