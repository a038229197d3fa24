-- What is ahead on a tape.
use Rattle.std.proofs.Common.{◌≡◌, ℕ, ◌+◌, ◌-◌, List, ◌∷◌, length, drop, sym, ap, ◌∙◌, arith}
use Rattle.std.proofs.lemmas.List.{length-drop, drop-drop}

-- the end of a list less its first number is an end of the list
pub end_more : (xs rest : List ℕ) (x : ℕ) (more : List ℕ) → rest ≡ drop (length xs - length rest) xs → rest ≡ x ∷ more → more ≡ drop (length xs - length more) xs
end_more xs rest x more end first =
    let n = length xs - length rest in
    let long : length rest ≡ length xs - n = ap (λ (ys : List ℕ). length ys) end ∙ length-drop n xs in
    let one : length rest ≡ length more + 1 = ap (λ (ys : List ℕ). length ys) first ∙ omega arith in
    ap (drop 1) (sym first ∙ end) ∙ drop-drop 1 n xs ∙ ap (λ k. drop k xs) (omega (arith, long, one))
