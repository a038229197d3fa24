-- Groups of bytes, one step on and at the end.
use Rattle.std.proofs.Common.{◌≡◌, ℕ, zero, suc, ◌+◌, ◌-◌, ◌*◌, ◌/◌, ◌%◌, ◌^◌, ◌<◌, ◌≤◌, List, [], ◌∷◌, ◌++◌, map, length, get_or, take, drop, sym, refl, ap, ◌∙◌, ap₂, add-mul, zero-mul, mul-add, mul_left_comm, add-one, arith}
use native.Mathlib.Nat.{div-eq_of_lt, div-eq-sub-div}
use lib.Bits.{bit_or}
use Rattle.std.specs.List.{range_with_len}
use Rattle.std.proofs.lemmas.Nat.{pow-add, shl_whole, or_comm, or_shifted, mul-le}
use Rattle.std.proofs.lemmas.List.{take_more, drop_more, length-take-le, length-drop, get_or-drop, drop-drop}
use Rattle.keccak.specs.Sponge.{little_endian}
use Rattle.byte_source.specs.Sources.{Byte, UsedUp}
use Rattle.byte_source.specs.Derivation.{groups, WholeGroup}

pub little_endian_push : (bytes : List ℕ) (b : ℕ) → little_endian (bytes ++ b ∷ []) ≡ little_endian bytes + b * 2 ^ (8 * length bytes)
little_endian_push [] b = omega arith
little_endian_push (x ∷ bytes) b =
    let n = length bytes in
    let next : 2 ^ (8 * suc n) ≡ 256 * 2 ^ (8 * n) = ap (λ k. 2 ^ k) (omega arith) ∙ pow-add 2 8 (8 * n) in
    let apart : b * (256 * 2 ^ (8 * n)) ≡ 256 * (b * 2 ^ (8 * n)) = mul_left_comm b 256 (2 ^ (8 * n)) in
    rw (next, apart) (omega (arith, little_endian_push bytes b, mul-add 256 (little_endian bytes) (b * 2 ^ (8 * n))))

-- a group's number after one more byte
pub little_endian_more : (bytes : List ℕ) (i : ℕ) → i < length bytes → little_endian (take (i + 1) bytes) ≡ little_endian (take i bytes) + get_or bytes i 0 * 2 ^ (8 * i)
little_endian_more bytes i h =
    let long : length (take i bytes) ≡ i = length-take-le i bytes (omega arith) in
    ap little_endian (take_more bytes i 0 h) ∙ little_endian_push (take i bytes) (get_or bytes i 0) ∙ ap (λ n. little_endian (take i bytes) + get_or bytes i 0 * 2 ^ (8 * n)) long

-- one more byte above the i that a number is made of
module _ (number b i : ℕ) (low : number < 2 ^ (8 * i)) (byte : b < 256) (few : i < 4) where
  pub or_byte : bit_or number ((b * 2 ^ (8 * i)) % 2 ^ 32) ≡ number + b * 2 ^ (8 * i)
  or_byte =
      let whole : (b * 2 ^ (8 * i)) % 2 ^ 32 ≡ b * 2 ^ (8 * i) = shl_whole b 8 (8 * i) 32 byte (omega arith) in
      ap (bit_or number) whole ∙ or_comm number (b * 2 ^ (8 * i)) ∙ or_shifted b (8 * i) number low ∙ omega arith

  pub or_byte_below : bit_or number ((b * 2 ^ (8 * i)) % 2 ^ 32) < 2 ^ (8 * (i + 1))
  or_byte_below =
      let next : 2 ^ (8 * (i + 1)) ≡ 256 * 2 ^ (8 * i) = ap (λ k. 2 ^ k) (omega arith) ∙ pow-add 2 8 (8 * i) in
      let room : (b + 1) * 2 ^ (8 * i) ≤ 256 * 2 ^ (8 * i) = mul-le (b + 1) (2 ^ (8 * i)) 256 (2 ^ (8 * i)) (omega arith) (omega arith) in
      rw (or_byte, next) (omega (arith, room, add-mul b 1 (2 ^ (8 * i))))

-- a byte that is given is the first of those ahead
pub byte_ahead : (bytes now : List ℕ) (position b end : ℕ) → now ≡ bytes → Byte bytes position b end → drop position bytes ≡ b ∷ drop end now
byte_ahead bytes now position b end same given = rw (same, given.moves, given.value) (drop_more bytes position 0 given.inside)

-- a group is cut short where the bytes are used up
pub group_short : (i c : ℕ) (bytes : List ℕ) (x : ℕ) (old : List ℕ) (position end : ℕ) → WholeGroup i bytes x (drop position old) → UsedUp old position end → i < c → length bytes < c
group_short i c bytes x old position end group used h =
    omega (arith, length-drop i bytes, length-drop position old, ap (λ (xs : List ℕ). length xs) group.after, used.spent, group.whole)

-- one more byte of a group
module _ (i : ℕ) (bytes : List ℕ) (x : ℕ) (rest : List ℕ) (group : WholeGroup i bytes x rest) (b : ℕ) (more : List ℕ) (first : rest ≡ b ∷ more) where
  front : drop i bytes ≡ b ∷ more
  front = sym group.after ∙ first

  inside : i < length bytes
  inside = omega (arith, length-drop i bytes, ap (λ (xs : List ℕ). length xs) front)

  pub group_more : WholeGroup (i + 1) bytes (x + b * 2 ^ (8 * i)) more
  group_more =
      let here : get_or bytes i 0 ≡ b = ap (λ n. get_or bytes n 0) (omega arith) ∙ sym (get_or-drop i bytes 0 0) ∙ ap (λ (xs : List ℕ). get_or xs 0 0) front in
      record {
        whole = omega (arith, inside);
        value = rw (group.value, sym here) (sym (little_endian_more bytes i inside));
        after = ap (drop 1) (sym front) ∙ drop-drop 1 i bytes;
      }

-- ---- the groups of a list

pub groups_none : (c : ℕ) (bytes : List ℕ) → length bytes < c → groups c bytes ≡ []
unfolding groups
groups_none c bytes short = rw (div-eq_of_lt short)

map_shift : (f h : ℕ → ℕ) → ((k : ℕ) → f (k + 1) ≡ h k) → (a m : ℕ) → map f (range_with_len (a + 1) m) ≡ map h (range_with_len a m)
map_shift f h same a zero = refl
map_shift f h same a (suc m) = ap₂ ◌∷◌ (same a) (map_shift f h same (a + 1) m)

pub groups_more : (c : ℕ) (bytes : List ℕ) → 0 < c → c ≤ length bytes → groups c bytes ≡ little_endian (take c bytes) ∷ groups c (drop c bytes)
unfolding groups
groups_more c bytes some whole =
    let at : ℕ → ℕ = λ g. little_endian (take c (drop (g * c) bytes)) in
    let after : ℕ → ℕ = λ g. little_endian (take c (drop (g * c) (drop c bytes))) in
    let many : length bytes / c ≡ suc (length (drop c bytes) / c) = div-eq-sub-div some whole ∙ add-one ((length bytes - c) / c) ∙ ap (λ n. suc (n / c)) (sym (length-drop c bytes)) in
    let step : (k : ℕ) → at (k + 1) ≡ after k = λ k. ap (λ (xs : List ℕ). little_endian (take c xs)) (ap (λ j. drop j bytes) (omega (arith, add-mul k 1 c)) ∙ sym (drop-drop (k * c) c bytes)) in
    ap (λ m. map at (range_with_len 0 m)) many ∙ ap₂ ◌∷◌ (ap (λ j. little_endian (take c (drop j bytes))) (zero-mul c)) (map_shift at after step 0 (length (drop c bytes) / c))
