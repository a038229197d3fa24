-- Sections written into a buffer, one after another.
use Rattle.std.proofs.Common.{◌≡◌, ℕ, ◌+◌, ◌≤◌, List, [], ◌++◌, length, drop, sym, refl, ap, ◌∙◌, arith}
use Rattle.std.proofs.lemmas.List.{append-nil, length-append, length-drop, take_at, drop_at, drop-drop, nil_from_length}
use Rattle.message.specs.Sections.{written_at}

-- after what is written already
pub written_next : (at : ℕ) (written rest bytes out : List ℕ) → out ≡ written ++ rest → at ≡ length written → written_at at bytes out ≡ (written ++ bytes) ++ drop (length bytes) rest
written_next at written rest bytes out is end =
    let more : drop (length bytes) (drop at (written ++ rest)) ≡ drop (at + length bytes) (written ++ rest) = drop-drop (length bytes) at (written ++ rest) in
    ap (written_at at bytes) is
    ∙ (λ j. take_at written rest at (sym end) j ++ bytes ++ sym more j)
    ∙ ap (λ back. written ++ bytes ++ drop (length bytes) back) (drop_at written rest at (sym end))

-- and with nothing left
pub written_last : (at : ℕ) (written rest bytes out : List ℕ) → out ≡ written ++ rest → at ≡ length written → length rest ≤ length bytes → written_at at bytes out ≡ written ++ bytes
written_last at written rest bytes out is end full =
    written_next at written rest bytes out is end
    ∙ ap (λ back. (written ++ bytes) ++ back) (nil_from_length (drop (length bytes) rest) (omega (arith, length-drop (length bytes) rest)))
    ∙ append-nil (written ++ bytes)

-- at the start
pub written_first : (bytes out : List ℕ) → written_at 0 bytes out ≡ bytes ++ drop (length bytes) out
written_first bytes out = written_next 0 [] out bytes out refl refl

-- three of them, which fill the buffer
pub three_written : (a b c out first second last : List ℕ) (i j : ℕ) → first ≡ written_at 0 a out → i ≡ length a → second ≡ written_at i b first → j ≡ i + length b → last ≡ written_at j c second → length out ≤ length a + length b + length c → last ≡ a ++ b ++ c
three_written a b c out first second last i j one i_is two j_is three full =
    let after_one : first ≡ a ++ drop (length a) out = one ∙ written_first a out in
    let after_two : second ≡ (a ++ b) ++ drop (length b) (drop (length a) out) = two ∙ written_next i a (drop (length a) out) b first after_one i_is in
    let end : j ≡ length (a ++ b) = omega (arith, length-append a b) in
    three ∙ written_last j (a ++ b) (drop (length b) (drop (length a) out)) c second after_two end (omega (arith, length-drop (length b) (drop (length a) out), length-drop (length a) out))
