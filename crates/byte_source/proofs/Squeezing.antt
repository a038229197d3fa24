-- Where a byte of a stream's block stands in the output.
use Rattle.std.proofs.Common.{◌≡◌, ℕ, ◌+◌, ◌-◌, ◌*◌, ◌/◌, ◌%◌, ◌<◌, ◌≤◌, List, get_or, sym, ap, ◌∙◌, ⊎_elim, arith}
use Rattle.std.proofs.lemmas.Bool.{cases_lt}
use Rattle.keccak.specs.Laws.{permuted}
use Rattle.keccak.specs.Sponge.{absorbed, output_block}
use Rattle.keccak.proofs.Streams.{length_shake128, permuted_more, shake128_byte}
use Rattle.keccak.specs.Permutation.{keccak_f}
use Rattle.keccak.specs.declared.sponge.TheConstants.{RATE}
use Rattle.byte_source.specs.Sources.{Byte, UsedUp}
use Rattle.byte_source.specs.Shakes.{stream_bytes, stream_position}
use Rattle.byte_source.specs.declared.stream.Stream.{Stream}
use Rattle.byte_source.specs.declared.stream.TheConstants.{BLOCKS, STREAM_LENGTH}

-- after one more block
pub squeezed_more : (left rest : ℕ) (state : List ℕ) → left ≤ BLOCKS → 1 ≤ left → rest ≡ left - 1 → permuted (BLOCKS - rest) state ≡ keccak_f (permuted (BLOCKS - left) state)
squeezed_more left rest state within some is = ap (λ n. permuted n state) (omega arith) ∙ permuted_more (BLOCKS - left) state

module _ (old : Stream) (s : Stream) (seeded : s.seed.value ≡ old.seed.value) (stays : stream_position s ≡ stream_position old) where
  -- the byte at the offset is the next one
  pub byte_next : s.offset < RATE → Byte (stream_bytes old) (stream_position old) (get_or s.block s.offset 0) (STREAM_LENGTH - (RATE * s.left + (RATE - (s.offset + 1))))
  byte_next more =
      let k = stream_position s in
      let begun : s.left < BLOCKS = ⊎_elim (λ lt. lt) (λ all. absurd (omega (arith, s.unread (omega (arith, s.within, all))))) (cases_lt s.left BLOCKS) in
      let inside : k < STREAM_LENGTH = omega (arith, begun) in
      let number : BLOCKS - 1 - s.left ≡ k / RATE = omega arith in
      let place : s.offset ≡ k % RATE = omega arith in
      rw (sym seeded, sym stays) (record {
        inside = rw (length_shake128 s.seed.value STREAM_LENGTH) inside;
        value =
            ap (λ (xs : List ℕ). get_or xs s.offset 0) (s.last begun)
            ∙ ap (λ n. get_or (output_block (permuted n (absorbed s.seed.value))) s.offset 0) number
            ∙ ap (λ n. get_or (output_block (permuted (k / RATE) (absorbed s.seed.value))) n 0) place
            ∙ sym (shake128_byte s.seed.value STREAM_LENGTH k inside);
        moves = omega arith;
      })

  -- there is none where no block is left
  pub none_next : old.offset ≡ RATE → old.left ≡ 0 → UsedUp (stream_bytes old) (stream_position old) (stream_position s)
  none_next full last = record { spent = rw (length_shake128 old.seed.value STREAM_LENGTH) (omega arith); stays = stays }
