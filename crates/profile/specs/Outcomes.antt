-- The outcomes of the four functions of a profile, for every argument. Faults are tried in the order that
-- the tests have here.
use Rattle.std.specs.Prelude.{ℕ, ◌^◌, Ok, Result, nat_le, nat_lt}
use Rattle.ring.specs.Faults.{checked}
use Rattle.ring.specs.declared.fault.Fault.{Fault}
use Rattle.ring.specs.declared.fault.Fault.TheVariants.{OutOfRange, CoinOutOfRange}
use Rattle.profile.specs.Laws.{Functions}
use Rattle.profile.specs.declared.numbers.Numbers.{Numbers}

-- for a residue below q and one of so many coins, its signal and its key bit
abbrev pub reconciled : (q coins : ℕ) (signal key_bit : ℕ → ℕ → ℕ) → ℕ → ℕ → Result (ℕ × ℕ) Fault
reconciled q coins signal key_bit x coin =
    checked (nat_lt x q) (OutOfRange 0)
    (checked (nat_lt coin coins) (CoinOutOfRange 0)
    (Ok (signal x coin, key_bit x coin)))

-- for a residue below q and a signal of so many bits, the key bit that is read
abbrev pub key_bit_read : (q width : ℕ) (read : ℕ → ℕ → ℕ) → ℕ → ℕ → Result ℕ Fault
key_bit_read q width read y signal =
    checked (nat_lt y q) (OutOfRange 0)
    (checked (nat_lt signal (2 ^ width)) (OutOfRange 0)
    (Ok (read y signal)))

module _ (k : Numbers) (f : Functions) where
  abbrev pub round_outcome : ℕ → Result ℕ Fault
  round_outcome x = checked (nat_lt x k.q) (OutOfRange 0) (Ok (f.round x))

  abbrev pub recover_outcome : ℕ → Result ℕ Fault
  recover_outcome y = checked (nat_le y k.p) (OutOfRange 0) (Ok (f.recover y))

  abbrev pub reconcile_outcome : ℕ → ℕ → Result (ℕ × ℕ) Fault
  reconcile_outcome x coin = reconciled k.q k.coins f.signal f.key_bit x coin

  abbrev pub read_outcome : ℕ → ℕ → Result ℕ Fault
  read_outcome y signal = key_bit_read k.q k.signal_width f.read y signal
