-- Bytes written part by part.
use Rattle.std.proofs.Common.{◌≡◌, ℕ, ◌+◌, ◌-◌, ◌<◌, ◌≤◌, List, ◌++◌, length, get_or, take, drop, ap, ◌∙◌, inl, inr, arith, length-append, length-drop}
use borrow.Rule.Slice.PartMut.{put_mid, post_of}
use Rattle.std.proofs.lemmas.Bool.{cases_lt}
use Rattle.std.proofs.lemmas.List.{get_or_append_left, get_or-append_right, get_or-take, length-take-le}

-- `out` has `many` bytes, and those below n are the ones that f gives
pub record Written (f : ℕ → ℕ) (many : ℕ) (out : List ℕ) (n : ℕ) : Type 0 where
  pub long : length out ≡ many
  pub bytes : (k : ℕ) → k < n → get_or out k 0 ≡ f k

pub written_more : (f : ℕ → ℕ) (many : ℕ) (out part : List ℕ) (at size m n : ℕ) → at ≤ m → at + size ≤ many → n ≤ at + size → length part ≡ size → ((j : ℕ) → j < size → get_or part j 0 ≡ f (at + j)) → Written f many out m → Written f many (put_mid at (at + size - at) out part) n
written_more f many out part at size m n from within upto long here before =
    let front : List ℕ = take at out in
    let after : List ℕ = post_of at (at + size - at) out in
    let starts : length front ≡ at = length-take-le at out (omega (arith, before.long)) in
    let ends : length after + at + size ≡ many = omega (arith, before.long, length-drop (at + size - at) (drop at out), length-drop at out) in
    record {
      long = length-append front (part ++ after) ∙ omega (arith, length-append part after);
      bytes = λ k h. elim (cases_lt k at) [
        | inl earlier ↦ get_or_append_left front (part ++ after) 0 k (omega arith) ∙ get_or-take at out k 0 earlier ∙ before.bytes k (omega arith)
        | inr later ↦
            let place : at + (k - at) ≡ k = omega arith in
            get_or-append_right front (part ++ after) at k 0 starts later ∙ get_or_append_left part after 0 (k - at) (omega arith) ∙ here (k - at) (omega arith) ∙ ap f place
      ];
    }
