-- How many of the numbers below a bound pass a test.
use Rattle.std.specs.Prelude.{ℕ, zero, suc, ◌+◌, Bool, if◌then◌else◌}

abbrev pub count : (ℕ → Bool) → ℕ → ℕ
count passes zero = 0
count passes (suc n) = count passes n + (if passes n then 1 else 0)
