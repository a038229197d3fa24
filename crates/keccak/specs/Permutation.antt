-- The permutation Keccak-f[1600] of FIPS 202, section 3. A state is a list of 25 lanes of 64 bits: lane
-- (x, y) is number x + 5 * y, and bit z of a lane has the weight 2 ^ z.
use Rattle.std.specs.Prelude.{ℕ, zero, suc, ◌+◌, ◌-◌, ◌*◌, ◌/◌, ◌%◌, ◌^◌, bit_and, bit_or, bit_xor}
use Rattle.std.specs.Prelude.{List, [], ◌∷◌, map, slice_index, slice_set}
use Rattle.std.specs.List.{range_with_len}

abbrev pub lane : List ℕ → ℕ → ℕ → ℕ
lane s x y = slice_index s (x + 5 * y)

-- the state whose lane (x, y) is f x y
unfoldable pub by_lane : (ℕ → ℕ → ℕ) → List ℕ
by_lane f = map (λ i. f (i % 5) (i / 5)) (range_with_len 0 25)

-- bit z goes to bit (z + offset) mod 64
abbrev pub rotated : ℕ → ℕ → ℕ
rotated v offset = bit_or ((v * 2 ^ (offset % 64)) % 2 ^ 64) (v / 2 ^ ((64 - offset % 64) % 64))

-- each of 64 bits turned
abbrev pub complement : ℕ → ℕ
complement v = (2 ^ 64 - 1) - v

-- C[x] of theta: the parity of column x
abbrev pub parity : List ℕ → ℕ → ℕ
parity s x =
    bit_xor (bit_xor (bit_xor (bit_xor (lane s x 0) (lane s x 1)) (lane s x 2)) (lane s x 3)) (lane s x 4)

-- D[x] of theta: what it adds to the lanes of column x
abbrev pub effect : List ℕ → ℕ → ℕ
effect s x = bit_xor (parity s ((x + 4) % 5)) (rotated (parity s ((x + 1) % 5)) 1)

abbrev pub theta_lane : List ℕ → ℕ → ℕ → ℕ
theta_lane s x y = bit_xor (lane s x y) (effect s x)

unfoldable pub theta : List ℕ → List ℕ
theta s = by_lane (theta_lane s)

-- the offsets of rho, by x + 5 * y
abbrev pub rotation_offsets : List ℕ
rotation_offsets =
    0 ∷ 1 ∷ 62 ∷ 28 ∷ 27
    ∷ 36 ∷ 44 ∷ 6 ∷ 55 ∷ 20
    ∷ 3 ∷ 10 ∷ 43 ∷ 25 ∷ 39
    ∷ 41 ∷ 45 ∷ 15 ∷ 21 ∷ 8
    ∷ 18 ∷ 2 ∷ 61 ∷ 56 ∷ 14
    ∷ []

abbrev pub rho_lane : List ℕ → ℕ → ℕ → ℕ
rho_lane s x y = rotated (lane s x y) (slice_index rotation_offsets (x + 5 * y))

unfoldable pub rho : List ℕ → List ℕ
rho s = by_lane (rho_lane s)

abbrev pub pi_lane : List ℕ → ℕ → ℕ → ℕ
pi_lane s x y = lane s ((x + 3 * y) % 5) x

unfoldable pub pi : List ℕ → List ℕ
pi s = by_lane (pi_lane s)

abbrev pub chi_lane : List ℕ → ℕ → ℕ → ℕ
chi_lane s x y =
    bit_xor (lane s x y) (bit_and (complement (lane s ((x + 1) % 5) y)) (lane s ((x + 2) % 5) y))

unfoldable pub chi : List ℕ → List ℕ
chi s = by_lane (chi_lane s)

-- RC of iota, by the round
abbrev pub round_constants : List ℕ
round_constants =
    0x0000000000000001 ∷ 0x0000000000008082 ∷ 0x800000000000808a ∷ 0x8000000080008000
    ∷ 0x000000000000808b ∷ 0x0000000080000001 ∷ 0x8000000080008081 ∷ 0x8000000000008009
    ∷ 0x000000000000008a ∷ 0x0000000000000088 ∷ 0x0000000080008009 ∷ 0x000000008000000a
    ∷ 0x000000008000808b ∷ 0x800000000000008b ∷ 0x8000000000008089 ∷ 0x8000000000008003
    ∷ 0x8000000000008002 ∷ 0x8000000000000080 ∷ 0x000000000000800a ∷ 0x800000008000000a
    ∷ 0x8000000080008081 ∷ 0x8000000000008080 ∷ 0x0000000080000001 ∷ 0x8000000080008008
    ∷ []

unfoldable pub iota : ℕ → List ℕ → List ℕ
iota round s = slice_set s 0 (bit_xor (lane s 0 0) (slice_index round_constants round))

unfoldable pub one_round : ℕ → List ℕ → List ℕ
one_round round s = iota round (chi (pi (rho (theta s))))

-- the first n rounds
unfoldable pub rounds : ℕ → List ℕ → List ℕ
rounds zero s = s
rounds (suc n) s = one_round n (rounds n s)

unfoldable pub keccak_f : List ℕ → List ℕ
keccak_f s = rounds 24 s
