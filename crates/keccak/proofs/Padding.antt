-- The last block of a message.
use Rattle.std.proofs.Common.{◌≡◌, ℕ, zero, suc, ◌+◌, ◌-◌, ◌<◌, eqb, List, [], ◌∷◌, ◌++◌, length, get_or, drop, set, replicate, sym, refl, ap, ◌∙◌, append_assoc, add-one, arith, length-append}
use lib.Bits.{bit_xor}
use lib.ListN.{length-replicate}
use Rattle.std.proofs.lemmas.List.{set_at, get_or_at, replicate_more, drop-replicate}
use Rattle.std.proofs.lemmas.Bool.{ne_eqb, cond-false}
use Rattle.keccak.specs.Sponge.{rate, padding}

-- what the last two writes leave of a block
abbrev pub finished : List ℕ → ℕ → List ℕ
finished block used = set (set block used 0x1f) 167 (bit_xor (get_or (set block used 0x1f) 167 0) 0x80)

padding_of_two : (n : ℕ) → padding (suc (suc n)) ≡ (0x1f ∷ replicate n 0) ++ 0x80 ∷ []
padding_of_two n =
    let zeros : suc (suc n) - 2 ≡ n = omega arith in
    cond-false (eqb (suc (suc n)) 1) (0x9f ∷ []) ((0x1f ∷ replicate (suc (suc n) - 2) 0) ++ 0x80 ∷ []) (ne_eqb (suc (suc n)) 1 (λ e. omega arith))
    ∙ ap (λ k. (0x1f ∷ replicate k 0) ++ 0x80 ∷ []) zeros

pub length_padding : (n : ℕ) → 0 < n → length (padding n) ≡ n
length_padding zero some = absurd (omega arith)
length_padding (suc zero) some = refl
length_padding (suc (suc n)) some =
    ap length (padding_of_two n) ∙ length-append (0x1f ∷ replicate n 0) (0x80 ∷ []) ∙ ap (λ k. suc k + 1) (length-replicate n 0) ∙ omega arith

-- the rest and zeros, by how many zeros follow the first
finished_by : (rest : List ℕ) (n : ℕ) → length rest + suc n ≡ rate → finished (rest ++ replicate (suc n) 0) (length rest) ≡ rest ++ padding (suc n)
finished_by rest zero whole =
    let at : length rest ≡ 167 = omega arith in
    ap (λ b. set b 167 (bit_xor (get_or b 167 0) 0x80)) (set_at rest 0 [] 0x1f (length rest) refl)
    ∙ ap (λ v. set (rest ++ 0x1f ∷ []) 167 (bit_xor v 0x80)) (get_or_at rest 0x1f [] 0 167 at)
    ∙ set_at rest 0x1f [] 0x9f 167 at
finished_by rest (suc n) whole =
    let front : List ℕ = rest ++ (0x1f ∷ replicate n 0) in
    let at : length front ≡ 167 = length-append rest (0x1f ∷ replicate n 0) ∙ ap (λ k. length rest + suc k) (length-replicate n 0) ∙ omega arith in
    let zeros : 0 ∷ replicate n 0 ≡ replicate n 0 ++ 0 ∷ [] = ap (λ k. replicate k 0) (sym (add-one n)) ∙ sym (replicate_more n 0) in
    let joined : rest ++ (0x1f ∷ (0 ∷ replicate n 0)) ≡ front ++ 0 ∷ [] = ap (λ z. rest ++ (0x1f ∷ z)) zeros ∙ sym (append_assoc rest (0x1f ∷ replicate n 0) (0 ∷ [])) in
    ap (λ b. set b 167 (bit_xor (get_or b 167 0) 0x80)) (set_at rest 0 (0 ∷ replicate n 0) 0x1f (length rest) refl ∙ joined)
    ∙ ap (λ v. set (front ++ 0 ∷ []) 167 (bit_xor v 0x80)) (get_or_at front 0 [] 0 167 at)
    ∙ set_at front 0 [] 0x80 167 at
    ∙ append_assoc rest (0x1f ∷ replicate n 0) (0x80 ∷ [])
    ∙ ap (λ p. rest ++ p) (sym (padding_of_two n))

-- the rest copied over the front of a block of zeros
pub finished_is : (rest copied : List ℕ) → length rest < rate → copied ≡ rest → finished (copied ++ drop (length rest) (replicate 168 0)) (length rest) ≡ rest ++ padding (rate - length rest)
finished_is rest copied below is =
    let lacking : rate - length rest ≡ suc (167 - length rest) = omega arith in
    ap (λ b. finished (b ++ drop (length rest) (replicate 168 0)) (length rest)) is
    ∙ ap (λ z. finished (rest ++ z) (length rest)) (drop-replicate (length rest) 168 0 ∙ ap (λ k. replicate k 0) lacking)
    ∙ finished_by rest (167 - length rest) (omega arith)
    ∙ ap (λ k. rest ++ padding k) (sym lacking)
