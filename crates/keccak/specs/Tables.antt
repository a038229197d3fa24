-- The rules by which FIPS 202 defines the constants of iota and the offsets of rho.
use Rattle.std.specs.Prelude.{◌≡◌, ℕ, zero, suc, ◌+◌, ◌-◌, ◌*◌, ◌/◌, ◌%◌, ◌^◌, bit_xor}
use Rattle.std.specs.Prelude.{List, map, replicate, sum_by, slice_set}
use Rattle.std.specs.List.{range_with_len}
use Rattle.keccak.specs.Permutation.{round_constants, rotation_offsets}

-- one step of the shift register of algorithm 5, bit i of which has the weight 2 ^ i: multiplied by x modulo
-- x^8 + x^6 + x^5 + x^4 + 1
abbrev pub register_step : ℕ → ℕ
register_step r = bit_xor (2 * r) (r / 2 ^ 7 * 0b1_0111_0001)

abbrev pub register : ℕ → ℕ
register zero = 1
register (suc t) = register_step (register t)

-- rc(t)
abbrev pub rc : ℕ → ℕ
rc t = register (t % 255) % 2

-- RC[round]: bit 2^j - 1 is rc(j + 7 round) for j from 0 to 6, and the others are 0
abbrev pub round_constant : ℕ → ℕ
round_constant round = sum_by (λ j. rc (j + 7 * round) * 2 ^ (2 ^ j - 1)) (range_with_len 0 7)

-- the next place (x, y) of algorithm 2
abbrev pub next_place : ℕ × ℕ → ℕ × ℕ
next_place (x, y) = (y, (2 * x + 3 * y) % 5)

-- its place after t steps
abbrev pub walk : ℕ → ℕ × ℕ
walk zero = (1, 0)
walk (suc t) = next_place (walk t)

-- the offsets that the first n steps of the walk give, by x + 5 * y
abbrev pub walked_offsets : ℕ → List ℕ
walked_offsets zero = replicate 25 0
walked_offsets (suc t) =
    slice_set (walked_offsets t) ((walk t).0 + 5 * (walk t).1) ((t + 1) * (t + 2) / 2 % 64)

pub record TablesFollowTheRules : Type 0 where
  pub constants : round_constants ≡ map round_constant (range_with_len 0 24)
  pub offsets : rotation_offsets ≡ walked_offsets 24
