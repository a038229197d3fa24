-- What each outcome of a profile's functions says of what was handed in, and which outcomes there are not.
use Rattle.std.specs.Prelude.{◌≡◌, ℕ, ◌+◌, ◌^◌, ◌<◌, ◌≤◌, ◌⊎◌, Ok, Err, Result}
use Rattle.ring.specs.declared.fault.Fault.{Fault}
use Rattle.ring.specs.declared.fault.Fault.TheVariants.{WrongLength, OutOfRange, SumTooLarge}
use Rattle.ring.specs.declared.fault.Fault.TheVariants.{CoinOutOfRange, SourceSpent}
use Rattle.profile.specs.Outcomes.{round_outcome, recover_outcome, reconcile_outcome, read_outcome}
use Rattle.profile.specs.Laws.{Functions}
use Rattle.profile.specs.declared.numbers.Numbers.{Numbers}

-- a function of one number below a bound, with its value there
abbrev pub NumberMeans : (bound x value : ℕ) → Result ℕ Fault → Type 0
NumberMeans bound x value (Ok y) = (x < bound) × (y ≡ value)
NumberMeans bound x value (Err (OutOfRange place)) = (bound ≤ x) × (place ≡ 0)
NumberMeans bound x value (Err (WrongLength place)) = ⊥
NumberMeans bound x value (Err (SumTooLarge place)) = ⊥
NumberMeans bound x value (Err (CoinOutOfRange place)) = ⊥
NumberMeans bound x value (Err (SourceSpent place)) = ⊥

-- a residue and a coin, with their signal and key bit: the residue first, then the coin
abbrev pub ReconcileMeans : (q coins x coin signal key_bit : ℕ) → Result (ℕ × ℕ) Fault → Type 0
ReconcileMeans q coins x coin signal key_bit (Ok both) =
    (x < q) × (coin < coins) × (both ≡ (signal, key_bit))
ReconcileMeans q coins x coin signal key_bit (Err (OutOfRange place)) = (q ≤ x) × (place ≡ 0)
ReconcileMeans q coins x coin signal key_bit (Err (CoinOutOfRange place)) =
    (x < q) × (coins ≤ coin) × (place ≡ 0)
ReconcileMeans q coins x coin signal key_bit (Err (WrongLength place)) = ⊥
ReconcileMeans q coins x coin signal key_bit (Err (SumTooLarge place)) = ⊥
ReconcileMeans q coins x coin signal key_bit (Err (SourceSpent place)) = ⊥

-- a residue and a signal of so many bits, with the key bit that is read from them
abbrev pub ReadMeans : (q width y signal key_bit : ℕ) → Result ℕ Fault → Type 0
ReadMeans q width y signal key_bit (Ok bit) = (y < q) × (signal < 2 ^ width) × (bit ≡ key_bit)
ReadMeans q width y signal key_bit (Err (OutOfRange place)) = ((q ≤ y) ⊎ (2 ^ width ≤ signal)) × (place ≡ 0)
ReadMeans q width y signal key_bit (Err (WrongLength place)) = ⊥
ReadMeans q width y signal key_bit (Err (SumTooLarge place)) = ⊥
ReadMeans q width y signal key_bit (Err (CoinOutOfRange place)) = ⊥
ReadMeans q width y signal key_bit (Err (SourceSpent place)) = ⊥

-- for a profile's numbers and functions
pub record FunctionLaws (k : Numbers) (f : Functions) : Type 0 where
  pub round_means : (x : ℕ) → NumberMeans k.q x (f.round x) (round_outcome k f x)
  pub recover_means : (y : ℕ) → NumberMeans (k.p + 1) y (f.recover y) (recover_outcome k f y)
  pub reconcile_means :
      (x coin : ℕ) →
      ReconcileMeans k.q k.coins x coin (f.signal x coin) (f.key_bit x coin) (reconcile_outcome k f x coin)
  pub read_means :
      (y signal : ℕ) → ReadMeans k.q k.signal_width y signal (f.read y signal) (read_outcome k f y signal)
  -- what is in range is accepted
  pub rounds : (x : ℕ) → x < k.q → round_outcome k f x ≡ Ok (f.round x)
  pub recovers : (y : ℕ) → y ≤ k.p → recover_outcome k f y ≡ Ok (f.recover y)
  pub reconciles :
      (x coin : ℕ) → x < k.q → coin < k.coins →
      reconcile_outcome k f x coin ≡ Ok (f.signal x coin, f.key_bit x coin)
  pub reads :
      (y signal : ℕ) → y < k.q → signal < 2 ^ k.signal_width →
      read_outcome k f y signal ≡ Ok (f.read y signal)

-- for all numbers and functions
abbrev pub FunctionsRefuseTheFirst : Type 0
FunctionsRefuseTheFirst = (k : Numbers) (f : Functions) → FunctionLaws k f
