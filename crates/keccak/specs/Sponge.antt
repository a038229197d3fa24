-- SHAKE128 of FIPS 202 for strings of bytes: the sponge of section 4 over Keccak-f[1600] at the rate of 168
-- bytes, with the suffix 1111 and the padding pad10*1 in the bytes of appendix B.2.
use Rattle.std.specs.Prelude.{ℕ, zero, suc, ◌+◌, ◌-◌, ◌*◌, ◌/◌, ◌%◌, ◌^◌, ◌==◌, bit_xor, if◌then◌else◌}
use Rattle.std.specs.Prelude.{List, [], ◌∷◌, ◌++◌, map, length, take, drop, replicate, fold, slice_index}
use Rattle.std.specs.List.{range_with_len}
use Rattle.keccak.specs.Permutation.{keccak_f}
use Rattle.keccak.specs.declared.sponge.Shake128.{Shake128}

abbrev pub rate : ℕ
rate = 168

-- what is added to a message that lacks this many bytes of a whole block, from 1 to 168
abbrev pub padding : ℕ → List ℕ
padding lacking = if lacking == 1 then 0x9f ∷ [] else 0x1f ∷ replicate (lacking - 2) 0 ++ 0x80 ∷ []

abbrev pub padded : List ℕ → List ℕ
padded m = m ++ padding (rate - length m % rate)

-- the blocks of a string of whole blocks
abbrev pub blocks : List ℕ → List (List ℕ)
blocks p = map (λ i. take rate (drop (rate * i) p)) (range_with_len 0 (length p / rate))

-- the number that bytes write, the low byte first
abbrev pub little_endian : List ℕ → ℕ
little_endian [] = 0
little_endian (b ∷ bs) = b + 256 * little_endian bs

-- lane i of a block, of which each lane has 8 bytes; the lanes of the capacity are 0
abbrev pub block_lane : List ℕ → ℕ → ℕ
block_lane b i = little_endian (map (λ j. slice_index b (8 * i + j)) (range_with_len 0 8))

-- the block added to the state
unfoldable pub added : List ℕ → List ℕ → List ℕ
added s b = map (λ i. bit_xor (slice_index s i) (block_lane b i)) (range_with_len 0 25)

unfoldable pub absorbed_block : List ℕ → List ℕ → List ℕ
absorbed_block s b = keccak_f (added s b)

-- the state after a message
unfoldable pub absorbed : List ℕ → List ℕ
absorbed m = fold absorbed_block (replicate 25 0) (blocks (padded m))

-- byte k of a state, of which each lane has 8 bytes, the low byte first
abbrev pub output_byte : List ℕ → ℕ → ℕ
output_byte s k = slice_index s (k / 8) / 256 ^ (k % 8) % 256

-- the first 168 bytes of a state
unfoldable pub output_block : List ℕ → List ℕ
output_block s = map (output_byte s) (range_with_len 0 rate)

-- n blocks of output from the state s on
unfoldable pub squeezed : ℕ → List ℕ → List ℕ
squeezed zero s = []
squeezed (suc n) s = output_block s ++ squeezed n (keccak_f s)

-- the first d bytes of SHAKE128 of m
unfoldable pub shake128 : List ℕ → ℕ → List ℕ
shake128 m d = take d (squeezed (d / rate + 1) (absorbed m))

-- The state that the next block of output is read from. A sponge keeps the state from before that
-- permutation, so that a block that is never read costs none.
abbrev pub next_state : Shake128 → List ℕ
next_state h = keccak_f h.lanes
