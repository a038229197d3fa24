-- The blocks of a message, absorbed one by one.
use Rattle.std.proofs.Common.{◌≡◌, ℕ, suc, ◌+◌, ◌-◌, ◌*◌, ◌/◌, ◌%◌, ◌<◌, ◌≤◌, List, [], ◌∷◌, ◌++◌, length, get_or, take, drop, replicate, fold, sym, ap, ◌∙◌, arith, length-append, length-drop}
use Rattle.std.specs.Simd.{first_chunks}
use Rattle.std.proofs.lemmas.List.{take_all}
use Rattle.std.proofs.lemmas.List.Sums.{fold_more, fold_push}
use Rattle.keccak.proofs.Chunks.{chunks_by_place, chunks_completed}
use Rattle.keccak.proofs.Padding.{length_padding}
use Rattle.keccak.specs.Permutation.{keccak_f}
use Rattle.keccak.specs.Sponge.{rate, padding, blocks, added, absorbed_block, absorbed}

-- the state after these blocks
abbrev pub after_blocks : List (List ℕ) → List ℕ
after_blocks bs = fold absorbed_block (replicate 25 0) bs

pub absorbed_more : (bs : List (List ℕ)) (i : ℕ) → i < length bs → after_blocks (take (i + 1) bs) ≡ keccak_f (added (after_blocks (take i bs)) (get_or bs i []))
unfolding absorbed_block
absorbed_more bs i below = fold_more absorbed_block (replicate 25 0) bs i [] below

-- the whole message: its whole blocks, and the rest with its padding
pub absorbed_is : (m rest last s t : List ℕ) (bs : List (List ℕ)) (n : ℕ) → bs ≡ first_chunks 168 (length m / 168) m → length bs ≤ n → rest ≡ drop (length m / 168 * 168) m → s ≡ after_blocks (take n bs) → last ≡ rest ++ padding (rate - length rest) → t ≡ added s last → keccak_f t ≡ absorbed m
unfolding absorbed absorbed_block
absorbed_is m rest last s t bs n are all is_rest is_state is_last by_adding =
    let whole : ℕ = length m / 168 in
    let p : List ℕ = padding (rate - length m % rate) in
    let place : whole * 168 ≡ 168 * whole = omega arith in
    let size : length rest ≡ length m % rate = ap length is_rest ∙ length-drop (whole * 168) m ∙ omega arith in
    let lacking : length p ≡ rate - length m % rate = length_padding (rate - length m % rate) (omega arith) in
    let many : length (m ++ p) / 168 ≡ suc whole = omega (arith, length-append m p) in
    let completed : drop (168 * whole) m ++ p ≡ last =
    ap (λ k. drop k m ++ p) (sym place) ∙ ap (λ r. r ++ p) (sym is_rest) ∙ ap (λ k. rest ++ padding (rate - k)) (sym size) ∙ sym is_last in
    let cut : blocks (m ++ p) ≡ bs ++ last ∷ [] =
    sym (chunks_by_place 168 (length (m ++ p) / 168) (m ++ p)) ∙ ap (λ k. first_chunks 168 k (m ++ p)) many
    ∙ chunks_completed 168 whole m p (omega arith) (omega arith) ∙ ap (λ b. first_chunks 168 whole m ++ b ∷ []) completed
    ∙ ap (λ l. l ++ last ∷ []) (sym are) in
    ap keccak_f (by_adding ∙ ap (λ a. added a last) (is_state ∙ ap after_blocks (take_all n bs all)))
    ∙ sym (fold_push absorbed_block (replicate 25 0) bs last) ∙ ap after_blocks (sym cut)

pub ruleset absorbing_steps = (absorbed_more, absorbed_is)
