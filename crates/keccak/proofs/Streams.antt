-- The output of a sponge, block after block.
use Rattle.std.proofs.Common.{◌≡◌, ℕ, zero, suc, ◌+◌, ◌-◌, ◌*◌, ◌/◌, ◌%◌, ◌<◌, ◌≤◌, List, [], ◌++◌, length, get_or, take, sym, refl, ap, ◌∙◌, inl, inr, add-one, arith, length-append}
use Rattle.std.proofs.lemmas.List.FromFn.{length-map-range_with_len}
use Rattle.std.proofs.lemmas.List.{get_or_append_left, get_or-append_right, get_or-take, ext_get_or, length-take-le}
use Rattle.std.proofs.lemmas.Bool.{cases_lt}
use Rattle.keccak.specs.Laws.{permuted}
use Rattle.keccak.specs.Permutation.{keccak_f}
use Rattle.keccak.specs.Sponge.{absorbed, output_byte, output_block, squeezed, shake128}

pub length_output_block : (s : List ℕ) → length (output_block s) ≡ 168
unfolding output_block
length_output_block s = length-map-range_with_len (output_byte s) 0 168

pub permuted_none : (s : List ℕ) → permuted 0 s ≡ s
unfolding permuted
permuted_none s = refl

permuted_suc : (n : ℕ) (s : List ℕ) → permuted (suc n) s ≡ keccak_f (permuted n s)
unfolding permuted
permuted_suc n s = refl

pub permuted_more : (n : ℕ) (s : List ℕ) → permuted (n + 1) s ≡ keccak_f (permuted n s)
permuted_more n s = ap (λ k. permuted k s) (add-one n) ∙ permuted_suc n s

-- the first permutation instead of the last
permuted_first : (n : ℕ) (s : List ℕ) → permuted n (keccak_f s) ≡ keccak_f (permuted n s)
permuted_first zero s = permuted_none (keccak_f s) ∙ ap keccak_f (sym (permuted_none s))
permuted_first (suc n) s = permuted_suc n (keccak_f s) ∙ ap keccak_f (permuted_first n s ∙ sym (permuted_suc n s))

squeezed_none : (s : List ℕ) → squeezed zero s ≡ []
unfolding squeezed
squeezed_none s = refl

squeezed_suc : (n : ℕ) (s : List ℕ) → squeezed (suc n) s ≡ output_block s ++ squeezed n (keccak_f s)
unfolding squeezed
squeezed_suc n s = refl

pub length_squeezed : (n : ℕ) (s : List ℕ) → length (squeezed n s) ≡ 168 * n
length_squeezed zero s = ap length (squeezed_none s)
length_squeezed (suc n) s =
    ap length (squeezed_suc n s) ∙ length-append (output_block s) (squeezed n (keccak_f s))
    ∙ omega (arith, length_output_block s, length_squeezed n (keccak_f s))

-- byte k of the output from the state s on
abbrev pub stream_byte : List ℕ → ℕ → ℕ
stream_byte s k = get_or (output_block (permuted (k / 168) s)) (k % 168) 0

pub stream_byte_at : (s : List ℕ) (n j : ℕ) → j < 168 → stream_byte s (168 * n + j) ≡ get_or (output_block (permuted n s)) j 0
stream_byte_at s n j below =
    let block : (168 * n + j) / 168 ≡ n = omega arith in
    let place : (168 * n + j) % 168 ≡ j = omega arith in
    ap (λ b. get_or (output_block (permuted b s)) ((168 * n + j) % 168) 0) block ∙ ap (λ p. get_or (output_block (permuted n s)) p 0) place

pub squeezed_byte : (n k : ℕ) (s : List ℕ) → k < 168 * n → get_or (squeezed n s) k 0 ≡ stream_byte s k
squeezed_byte zero k s below = absurd (omega arith)
squeezed_byte (suc n) k s below =
    ap (λ l. get_or l k 0) (squeezed_suc n s)
    ∙ elim (cases_lt k 168) [
      | inl first ↦
          let block : k / 168 ≡ 0 = omega arith in
          let place : k % 168 ≡ k = omega arith in
          get_or_append_left (output_block s) (squeezed n (keccak_f s)) 0 k (omega (arith, length_output_block s))
          ∙ sym (ap (λ b. get_or (output_block (permuted b s)) (k % 168) 0) block ∙ ap (λ p. get_or (output_block (permuted 0 s)) p 0) place ∙ ap (λ t. get_or (output_block t) k 0) (permuted_none s))
      | inr later ↦
          let block : suc ((k - 168) / 168) ≡ k / 168 = omega arith in
          let place : (k - 168) % 168 ≡ k % 168 = omega arith in
          get_or-append_right (output_block s) (squeezed n (keccak_f s)) 168 k 0 (length_output_block s) later
          ∙ squeezed_byte n (k - 168) (keccak_f s) (omega arith)
          ∙ ap (λ t. get_or (output_block t) ((k - 168) % 168) 0) (permuted_first ((k - 168) / 168) s ∙ sym (permuted_suc ((k - 168) / 168) s))
          ∙ ap (λ b. get_or (output_block (permuted b s)) ((k - 168) % 168) 0) block
          ∙ ap (λ p. get_or (output_block (permuted (k / 168) s)) p 0) place
    ]

pub length_shake128 : (m : List ℕ) (d : ℕ) → length (shake128 m d) ≡ d
unfolding shake128
length_shake128 m d = length-take-le d (squeezed (d / 168 + 1) (absorbed m)) (omega (arith, length_squeezed (d / 168 + 1) (absorbed m)))

pub shake128_byte : (m : List ℕ) (d k : ℕ) → k < d → get_or (shake128 m d) k 0 ≡ stream_byte (absorbed m) k
unfolding shake128
shake128_byte m d k below = get_or-take d (squeezed (d / 168 + 1) (absorbed m)) k 0 below ∙ squeezed_byte (d / 168 + 1) k (absorbed m) (omega arith)

-- a list of d bytes that are those of the output is the output
pub shake128_from_bytes : (m out : List ℕ) (d : ℕ) → length out ≡ d → ((k : ℕ) → k < d → get_or out k 0 ≡ stream_byte (absorbed m) k) → out ≡ shake128 m d
shake128_from_bytes m out d long all =
    ext_get_or 0 out (shake128 m d) (long ∙ sym (length_shake128 m d)) (λ k h. all k (omega arith) ∙ sym (shake128_byte m d k (omega arith)))

pub take_shake128 : (m : List ℕ) (d e : ℕ) → d ≤ e → take d (shake128 m e) ≡ shake128 m d
take_shake128 m d e below =
    shake128_from_bytes m (take d (shake128 m e)) d (length-take-le d (shake128 m e) (omega (arith, length_shake128 m e)))
    (λ k h. get_or-take d (shake128 m e) k 0 h ∙ shake128_byte m e k (omega arith))

pub ruleset stream_laws = (length_shake128, take_shake128, shake128_byte)
