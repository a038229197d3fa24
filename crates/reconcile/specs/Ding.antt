-- The reconciler of the Ding key exchange: a signal bit says whether a residue lies in the inner half of the
-- circle, and the key bit is a parity. One of two coins moves the inner region by one.
use Rattle.std.specs.Prelude.{ℕ, ◌+◌, ◌-◌, ◌*◌, ◌/◌, ◌%◌, Bool, if◌then◌else◌, ◌&&◌}
use Rattle.std.specs.Prelude.{ℤ, pos, ◌+ℤ◌, neg_ℤ, int_le, unsigned_abs}
use Rattle.ring.specs.Residues.{signed}
use Rattle.reconcile.specs.Reconcilers.{Reconciliation}
use Rattle.reconcile.specs.declared.reconciler.ReconcilerNumbers.{ReconcilerNumbers}

abbrev pub within : ℤ → ℤ → ℤ → Bool
within low high s = int_le low s && int_le s high

-- the inner region is -r .. r for coin 0 and -r+1 .. r+1 for coin 1, where r = floor(q / 4)
abbrev pub ding_signal : ℕ → ℕ → ℕ → ℕ
ding_signal q x coin =
    if within (neg_ℤ (pos (q / 4)) +ℤ pos coin) (pos (q / 4) +ℤ pos coin) (signed q x) then 0 else 1

-- the parity of the signed form, after (q-1)/2 is added where the signal is 1
abbrev pub ding_read : ℕ → ℕ → ℕ → ℕ
ding_read q y signal = unsigned_abs (signed q ((y + signal * ((q - 1) / 2)) % q)) % 2

abbrev pub ding_functions : Reconciliation
ding_functions = record {
  signal = ding_signal;
  key_bit = λ q x coin. ding_read q x (ding_signal q x coin);
  read = ding_read;
}

-- tau = floor((q - 4) / 4) = floor(q / 4) - 1
abbrev pub ding_numbers : ReconcilerNumbers
ding_numbers = record {
  step = 2;
  coins = 2;
  signal_width = 1;
  byte = 1;
  tolerance = record { times = 1; less = 4; shift = 2 };
}
