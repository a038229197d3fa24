-- A line: how long it is, what each outcome says of the room, and the line written piece by piece.
use Rattle.std.proofs.Common.{◌≡◌, ℕ, ◌+◌, ◌-◌, ◌*◌, eqb, List, [], ◌∷◌, ◌++◌, length, get_or, drop, set, Result, sym, refl, ap, ◌∙◌, subst, arith}
use Rattle.std.proofs.lemmas.Bool.{cond_both, eqb-true, eqb-false}
use Rattle.std.proofs.lemmas.List.{append_assoc, length-append, length-drop, length_push, take_at, drop_at, set_at, drop_more, drop_all}
use borrow.Rule.Slice.PartMut.{put_mid}
use Rattle.hex.specs.Hex.{encode_lower, lower_digits}
use Rattle.hex.proofs.HexLemmas.{length-encode_with}
use Rattle.ring.specs.declared.fault.Fault.{Fault}
use Rattle.message.specs.HexadecimalLines.{HexadecimalLineMeans, hexadecimal_line, hexadecimal_line_outcome}

length-hexadecimal_line : (word bytes : List ℕ) → length (hexadecimal_line word bytes) ≡ length word + 2 * length bytes + 2
length-hexadecimal_line word bytes =
    let text = encode_lower bytes in
    omega (arith, length-append word (32 ∷ (text ++ 10 ∷ [])), length-append text (10 ∷ []), length-encode_with lower_digits bytes)

pub line_means : (word bytes : List ℕ) (room : ℕ) → HexadecimalLineMeans word bytes room (hexadecimal_line_outcome word bytes room)
line_means word bytes room =
    let long = length-hexadecimal_line word bytes in
    cond_both (eqb room (length word + 2 * length bytes + 2)) _ _ (HexadecimalLineMeans word bytes room)
    (λ same. eqb-true _ _ same ∙ sym long)
    (λ other. (refl, λ is. eqb-false _ _ other (is ∙ long)))

-- the same of an outcome that is that of the line
pub outcome_means : (word bytes : List ℕ) (room : ℕ) (result : Result (Unit {0}) Fault) → result ≡ hexadecimal_line_outcome word bytes room → HexadecimalLineMeans word bytes room result
outcome_means word bytes room result is = subst (HexadecimalLineMeans word bytes room) (sym is) (line_means word bytes room)

pub line_written : (word text out : List ℕ) → length out ≡ length word + length text + 2 → set (put_mid (length word + 1) (length out - 1 - (length word + 1)) (set (word ++ drop (length word) out) (length word) 32) text) (length out - 1) 10 ≡ word ++ 32 ∷ (text ++ 10 ∷ [])
line_written word text out long =
    let m = length word in
    let k = length text in
    let rest = drop (m + 1) out in
    let front = word ++ 32 ∷ [] in
    let front_long : length front ≡ m + 1 = length_push word 32 in
    let rest_long : length rest ≡ k + 1 = omega (arith, length-drop (m + 1) out) in
    let room : length out - 1 - (m + 1) ≡ k = omega arith in
    let spaced : set (word ++ drop m out) m 32 ≡ front ++ rest =
    ap (λ t. set (word ++ t) m 32) (drop_more out m 0 (omega arith)) ∙ set_at word (get_or out m 0) rest 32 m refl ∙ sym (append_assoc word (32 ∷ []) rest) in
    let last : drop k rest ≡ get_or rest k 0 ∷ [] = drop_more rest k 0 (omega arith) ∙ ap (λ t. get_or rest k 0 ∷ t) (drop_all (k + 1) rest (omega arith)) in
    let texted : put_mid (m + 1) k (front ++ rest) text ≡ (front ++ text) ++ get_or rest k 0 ∷ [] =
    (λ j. take_at front rest (m + 1) front_long j ++ (text ++ drop k (drop_at front rest (m + 1) front_long j)))
    ∙ ap (λ t. front ++ (text ++ t)) last
    ∙ sym (append_assoc front text (get_or rest k 0 ∷ [])) in
    let end : length (front ++ text) ≡ length out - 1 = omega (arith, length-append front text, front_long) in
    (λ j. set (put_mid (m + 1) (room j) (spaced j) text) (length out - 1) 10)
    ∙ ap (λ t. set t (length out - 1) 10) texted
    ∙ set_at (front ++ text) (get_or rest k 0) [] 10 (length out - 1) end
    ∙ append_assoc front text (10 ∷ [])
    ∙ append_assoc word (32 ∷ []) (text ++ 10 ∷ [])
