-- The reconciler OKCN with two key values and four bands: z = 2x + coin lies in the lower or the upper half
-- of 0 .. 2q - 1, which is the key bit, and in one of four bands of that half, which is the signal.
use Rattle.std.specs.Prelude.{ℕ, ◌+◌, ◌*◌, ◌/◌, ◌%◌, pos, ◌+ℤ◌, ◌-ℤ◌, ◌*ℤ◌}
use Rattle.std.specs.Int.{int_div_euclid}
use Rattle.ring.specs.Residues.{residue}
use Rattle.reconcile.specs.Reconcilers.{Reconciliation}
use Rattle.reconcile.specs.declared.reconciler.ReconcilerNumbers.{ReconcilerNumbers}

abbrev pub okcn_key_bit : ℕ → ℕ → ℕ → ℕ
okcn_key_bit q x coin = (2 * x + coin) / q

abbrev pub okcn_signal : ℕ → ℕ → ℕ → ℕ
okcn_signal q x coin = 4 * ((2 * x + coin) % q) / q

-- floor((16 y + q (3 - 2 signal)) / 8 q) modulo 2; the quotient goes downward for negative numbers too
abbrev pub okcn_read : ℕ → ℕ → ℕ → ℕ
okcn_read q y signal =
    residue 2 (int_div_euclid (pos (16 * y) +ℤ pos q *ℤ (pos 3 -ℤ pos (2 * signal))) (pos (8 * q)))

abbrev pub okcn_functions : Reconciliation
okcn_functions = record { signal = okcn_signal; key_bit = okcn_key_bit; read = okcn_read }

-- tau = floor((3 q - 8) / 16)
abbrev pub okcn_numbers : ReconcilerNumbers
okcn_numbers = record {
  step = 1;
  coins = 2;
  signal_width = 2;
  byte = 2;
  tolerance = record { times = 3; less = 8; shift = 4 };
}
