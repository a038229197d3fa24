-- What a reconciler is: its numbers, its functions for every modulus, and the laws that it brings to a
-- profile.
use Rattle.std.specs.Prelude.{◌≡◌, ℕ, ◌-◌, ◌*◌, ◌/◌, ◌^◌, ◌<◌, ◌≤◌, ◌⊎◌, Result}
use Rattle.ring.specs.Residues.{IsModulus}
use Rattle.ring.specs.declared.fault.Fault.{Fault}
use Rattle.profile.specs.Outcomes.{reconciled, key_bit_read}
use Rattle.profile.specs.Laws.{ReadsWithin, Balanced}
use Rattle.reconcile.specs.declared.reconciler.ReconcilerNumbers.{ReconcilerNumbers}

-- each takes the modulus first
pub record Reconciliation : Type 0 where
  pub signal : ℕ → ℕ → ℕ → ℕ
  pub key_bit : ℕ → ℕ → ℕ → ℕ
  pub read : ℕ → ℕ → ℕ → ℕ

-- what is reconciled and what is read at the modulus q
module _ (k : ReconcilerNumbers) (f : Reconciliation) (q : ℕ) where
  abbrev pub reconcile_outcome_at : ℕ → ℕ → Result (ℕ × ℕ) Fault
  reconcile_outcome_at x coin = reconciled q k.coins (f.signal q) (f.key_bit q) x coin

  abbrev pub read_outcome_at : ℕ → ℕ → Result ℕ Fault
  read_outcome_at y signal = key_bit_read q k.signal_width (f.read q) y signal

-- the largest difference that is tolerated at the modulus q
abbrev pub tolerance : ReconcilerNumbers → ℕ → ℕ
tolerance k q = (k.tolerance.times * q - k.tolerance.less) / 2 ^ k.tolerance.shift

pub record SmallNumbers (k : ReconcilerNumbers) : Type 0 where
  pub step_is : (k.step ≡ 1) ⊎ (k.step ≡ 2)
  pub coins_least : 1 ≤ k.coins
  pub coins_most : k.coins ≤ 255
  pub width_least : 1 ≤ k.signal_width
  pub width_most : k.signal_width ≤ 8
  pub byte_below : k.byte < 2 ^ 8
  pub times_most : k.tolerance.times ≤ 16
  pub less_most : k.tolerance.less ≤ 16
  pub shift_most : k.tolerance.shift ≤ 16

pub record Reconciles (k : ReconcilerNumbers) (f : Reconciliation) (q : ℕ) : Type 0 where
  pub signal_range : (x coin : ℕ) → x < q → coin < k.coins → f.signal q x coin < 2 ^ k.signal_width
  pub bit_range : (x coin : ℕ) → x < q → coin < k.coins → f.key_bit q x coin < 2
  pub read_range : (y signal : ℕ) → y < q → signal < 2 ^ k.signal_width → f.read q y signal < 2
  pub tolerance_below : tolerance k q < q
  -- every reconciler tolerates an eighth of the circle for each unit of its step
  pub tolerance_least : k.step * (q / 8 - 1) ≤ tolerance k q
  pub reads_within : ReadsWithin q k.coins (f.signal q) (f.key_bit q) k.step (tolerance k q) (f.read q)
  pub balanced : Balanced q k.coins (f.signal q) (f.key_bit q) k.signal_width

-- a reconciler, for every modulus with floor(q / 8) at least 1, as that of each number set is. It need not
-- be one at 3, 5 and 7: a reconciler that tolerates floor(q / 8) - 1 may break a law there
pub record Sound (k : ReconcilerNumbers) (f : Reconciliation) : Type 0 where
  pub small : SmallNumbers k
  pub at : (q : ℕ) → IsModulus q → 1 ≤ q / 8 → Reconciles k f q
