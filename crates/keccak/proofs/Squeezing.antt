-- The output written into a buffer, block after block, the last one cut to what the buffer holds.
use Rattle.std.proofs.Common.{◌≡◌, ℕ, ◌+◌, ◌-◌, ◌*◌, ◌/◌, ◌<◌, ◌≤◌, min, List, length, get_or, take, sym, refl, ap, ◌∙◌, arith, length-take}
use borrow.Rule.Slice.PartMut.{put_mid}
use Rattle.std.proofs.lemmas.List.{get_or-take}
use Rattle.keccak.specs.Laws.{permuted}
use Rattle.keccak.specs.Permutation.{keccak_f}
use Rattle.keccak.specs.Sponge.{absorbed, output_block, shake128}
use Rattle.keccak.proofs.Streams.{stream_byte, stream_byte_at, length_output_block, permuted_none, permuted_more, shake128_from_bytes}
use Rattle.keccak.proofs.Writes.{Written, written_more}

-- whole blocks of the output from the state s on are in `out` as far as `at`, and t is the state for the next
pub record Squeezed (s t : List ℕ) (many : ℕ) (out : List ℕ) (at : ℕ) : Type 0 where
  pub whole : at ≡ 168 * (at / 168)
  pub state : t ≡ permuted (at / 168) s
  pub written : Written (stream_byte s) many out (min at many)

pub squeezed_none : (s out : List ℕ) → Squeezed s s (length out) out 0
squeezed_none s out = record {
  whole = refl;
  state = sym (permuted_none s);
  written = record { long = refl; bytes = λ k h. absurd (omega arith) };
}

pub squeezed_more : (s t u out block cut : List ℕ) (many at size : ℕ) → at < many → size ≡ min 168 (length out - at) → block ≡ output_block t → cut ≡ take size block → u ≡ keccak_f t → Squeezed s t many out at → Squeezed s u many (put_mid at (at + size - at) out cut) (at + 168)
squeezed_more s t u out block cut many at size within is_size is_block is_cut is_next before =
    let whole_cut : cut ≡ take size (output_block t) = is_cut ∙ ap (take size) is_block in
    let next : (at + 168) / 168 ≡ at / 168 + 1 = omega (arith, before.whole) in
    let byte : (j : ℕ) → j < size → get_or cut j 0 ≡ stream_byte s (at + j) = λ j below.
    ap (λ l. get_or l j 0) whole_cut ∙ get_or-take size (output_block t) j 0 (omega arith) ∙ ap (λ b. get_or (output_block b) j 0) before.state
    ∙ sym (stream_byte_at s (at / 168) j (omega arith)) ∙ ap (λ k. stream_byte s (k + j)) (sym before.whole) in
    record {
      whole = omega (arith, before.whole);
      state = is_next ∙ ap keccak_f before.state ∙ sym (permuted_more (at / 168) s) ∙ ap (λ n. permuted n s) (sym next);
      written =
          written_more (stream_byte s) many out cut at size (min at many) (min (at + 168) many) (omega arith) (omega (arith, before.written.long)) (omega (arith, before.written.long))
          (ap length whole_cut ∙ length-take size (output_block t) ∙ omega (arith, length_output_block t)) byte before.written;
    }

pub squeezed_all : (m s t out : List ℕ) (many at : ℕ) → s ≡ absorbed m → many ≤ at → Squeezed s t many out at → out ≡ shake128 m many
squeezed_all m s t out many at is whole all =
    shake128_from_bytes m out many all.written.long (λ k h. all.written.bytes k (omega arith) ∙ ap (λ b. stream_byte b k) is)
