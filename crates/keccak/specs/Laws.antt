-- What holds of the output of SHAKE128 as a whole.
use Rattle.std.specs.Prelude.{◌≡◌, ℕ, zero, suc, ◌/◌, ◌%◌, ◌<◌, ◌≤◌}
use Rattle.std.specs.Prelude.{List, length, take, slice_index}
use Rattle.keccak.specs.Permutation.{keccak_f}
use Rattle.keccak.specs.Sponge.{rate, absorbed, output_block, shake128}

-- the state after n more permutations
unfoldable pub permuted : ℕ → List ℕ → List ℕ
permuted zero s = s
permuted (suc n) s = keccak_f (permuted n s)

pub record OutputLaws : Type 0 where
  pub size : (m : List ℕ) (d : ℕ) → length (shake128 m d) ≡ d
  pub front : (m : List ℕ) (d e : ℕ) → d ≤ e → take d (shake128 m e) ≡ shake128 m d
  -- byte k is byte k % 168 of the block after k / 168 permutations of the state that absorbed m
  pub byte : (m : List ℕ) (d k : ℕ) → k < d →
      slice_index (shake128 m d) k ≡ slice_index (output_block (permuted (k / rate) (absorbed m))) (k % rate)
