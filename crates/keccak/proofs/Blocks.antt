-- A block as bytes and as lanes.
use Rattle.std.proofs.Common.{◌≡◌, ℕ, zero, suc, ◌+◌, ◌-◌, ◌*◌, ◌/◌, ◌%◌, ◌^◌, ◌<◌, ◌≤◌, w64, List, [], length, get_or, set, take, drop, sym, refl, ap, ◌∙◌, inl, inr, div-one, arith, length-set}
use lib.Bits.{bit_xor, xor_zero_r}
use borrow.Rule.Slice.PartMut.{put_mid}
use Rattle.std.specs.Int.{from_le_bytes, to_le_bytes}
use Rattle.std.specs.Simd.{first_chunks}
use Rattle.std.proofs.lemmas.Bool.{cases_lt}
use Rattle.std.proofs.lemmas.Grind.{get_or-set_at}
use Rattle.std.proofs.lemmas.List.{get_or_past, get_or-take, get_or-drop, get_or-set_other}
use Rattle.std.proofs.lemmas.List.FromFn.{fill_by_all}
use Rattle.keccak.specs.Sponge.{rate, block_lane, added, output_byte, output_block}
use Rattle.keccak.proofs.Chunks.{chunk_at}
use Rattle.keccak.proofs.Writes.{Written, written_more}

-- the number that eight bytes of a block write
word_lane : (b word : List ℕ) (i : ℕ) → word ≡ take 8 (drop (8 * i) b) → from_le_bytes w64 word ≡ block_lane b i
word_lane b word i is =
    let byte : (j : ℕ) → j < 8 → get_or word j 0 ≡ get_or b (8 * i + j) 0 =
    λ j below. ap (λ w. get_or w j 0) is ∙ get_or-take 8 (drop (8 * i) b) j 0 below ∙ get_or-drop (8 * i) b j 0 in
    omega (arith, byte 0 (omega arith), byte 1 (omega arith), byte 2 (omega arith), byte 3 (omega arith), byte 4 (omega arith), byte 5 (omega arith), byte 6 (omega arith), byte 7 (omega arith))

-- past a block there are only zeros
block_lane_past : (b : List ℕ) (i : ℕ) → length b ≡ rate → 21 ≤ i → block_lane b i ≡ 0
block_lane_past b i long past =
    let zero_at : (j : ℕ) → get_or b (8 * i + j) 0 ≡ 0 = λ j. get_or_past b (8 * i + j) 0 (omega arith) in
    omega (arith, zero_at 0, zero_at 1, zero_at 2, zero_at 3, zero_at 4, zero_at 5, zero_at 6, zero_at 7)

-- the block is added to the lanes below n, and the others are as they were
pub record AddedTo (s b out : List ℕ) (n : ℕ) : Type 0 where
  pub long : length out ≡ 25
  pub below : (k : ℕ) → k < n → get_or out k 0 ≡ bit_xor (get_or s k 0) (block_lane b k)
  pub above : (k : ℕ) → n ≤ k → get_or out k 0 ≡ get_or s k 0

pub added_more : (s b out : List ℕ) (words : List (List ℕ)) (i w : ℕ) → length b ≡ rate → words ≡ first_chunks 8 (length b / 8) b → i < 21 → w ≡ from_le_bytes w64 (get_or words i []) → AddedTo s b out i → AddedTo s b (set out i (bit_xor (get_or out i 0) w)) (i + 1)
added_more s b out words i w long are within is before =
    let word : get_or words i [] ≡ take 8 (drop (8 * i) b) = ap (λ l. get_or l i []) are ∙ chunk_at 8 (length b / 8) i b (omega arith) in
    let here : bit_xor (get_or out i 0) w ≡ bit_xor (get_or s i 0) (block_lane b i) =
    ap (λ v. bit_xor v w) (before.above i (omega arith)) ∙ ap (bit_xor (get_or s i 0)) (is ∙ word_lane b (get_or words i []) i word) in
    record {
      long = length-set out i (bit_xor (get_or out i 0) w) ∙ before.long;
      below = λ k h. elim (cases_lt k i) [
        | inl earlier ↦ get_or-set_other out i k _ 0 (λ e. omega arith) ∙ before.below k earlier
        | inr later ↦
            let same : k ≡ i = omega arith in
            get_or-set_at out i k _ 0 same (omega (arith, before.long)) ∙ here ∙ ap (λ j. bit_xor (get_or s j 0) (block_lane b j)) (sym same)
      ];
      above = λ k h. get_or-set_other out i k _ 0 (λ e. omega arith) ∙ before.above k (omega arith);
    }

pub added_all : (s b out : List ℕ) (n : ℕ) → n ≡ 21 → length b ≡ rate → AddedTo s b out n → out ≡ added s b
unfolding added
added_all s b out n whole long all =
    fill_by_all (λ k. bit_xor (get_or s k 0) (block_lane b k)) out 25 0 all.long
    (λ k h. elim (cases_lt k n) [
      | inl earlier ↦ all.below k earlier
      | inr later ↦ all.above k later ∙ sym (ap (bit_xor (get_or s k 0)) (block_lane_past b k long (omega arith)) ∙ xor_zero_r (get_or s k 0))
    ])

lane_byte_at : (v j : ℕ) → j < 8 → get_or (to_le_bytes w64 v) j 0 ≡ v / 256 ^ j % 256
lane_byte_at v zero h = ap (λ w. w % 256) (sym (div-one v))
lane_byte_at v (suc zero) h = refl
lane_byte_at v (suc (suc zero)) h = refl
lane_byte_at v (suc (suc (suc zero))) h = refl
lane_byte_at v (suc (suc (suc (suc zero)))) h = refl
lane_byte_at v (suc (suc (suc (suc (suc zero))))) h = refl
lane_byte_at v (suc (suc (suc (suc (suc (suc zero)))))) h = refl
lane_byte_at v (suc (suc (suc (suc (suc (suc (suc zero))))))) h = refl
lane_byte_at v (suc (suc (suc (suc (suc (suc (suc (suc j)))))))) h = absurd (omega arith)

-- byte j of lane i
byte_of_lane : (s : List ℕ) (i j : ℕ) → j < 8 → get_or (to_le_bytes w64 (get_or s i 0)) j 0 ≡ output_byte s (8 * i + j)
byte_of_lane s i j below =
    let row : (8 * i + j) / 8 ≡ i = omega arith in
    let column : (8 * i + j) % 8 ≡ j = omega arith in
    lane_byte_at (get_or s i 0) j below ∙ ap (λ k. get_or s i 0 / 256 ^ k % 256) (sym column) ∙ ap (λ k. get_or s k 0 / 256 ^ ((8 * i + j) % 8) % 256) (sym row)

-- writing the bytes of lane i
pub bytes_more : (s out part : List ℕ) (i : ℕ) → i < 21 → part ≡ to_le_bytes w64 (get_or (take 21 s) i 0) → Written (output_byte s) 168 out (8 * i) → Written (output_byte s) 168 (put_mid (8 * i) (8 * i + 8 - 8 * i) out part) (8 * (i + 1))
bytes_more s out part i below is before =
    let lane : part ≡ to_le_bytes w64 (get_or s i 0) = is ∙ ap (to_le_bytes w64) (get_or-take 21 s i 0 below) in
    written_more (output_byte s) 168 out part (8 * i) 8 (8 * i) (8 * (i + 1)) (omega arith) (omega arith) (omega arith) (ap length lane) (λ j h. ap (λ b. get_or b j 0) lane ∙ byte_of_lane s i j h) before

pub bytes_all : (s out : List ℕ) (n : ℕ) → 168 ≤ n → Written (output_byte s) 168 out n → out ≡ output_block s
unfolding output_block
bytes_all s out n whole all = fill_by_all (output_byte s) out 168 0 all.long (λ k h. all.bytes k (omega arith))
