-- The chain goes through every character, or stops at one that is no digit.
use Rattle.std.proofs.Common.{◌≡◌, ℕ, ◌<◌, length, Contains, true, false, rules, subst, arith, ⊎_elim}
use Rattle.std.specs.Bool.{MatchBool}
use Rattle.std.specs.List.{AllWithin, HoldsAt}
use Rattle.std.proofs.lemmas.Bool.{cases_Bool}
use Rattle.std.proofs.lemmas.Iterator.{cases_from_all, YieldsList-from_slice}
use Rattle.vectors.specs.Hexadecimal.{lower_hex_digits}
use Rattle.vectors.proofs.line.are_lower_hex_digits.Goals as goal

pub returns : goal.returns
returns c =
    let text = c.args.text.now in
    let is : ℕ → Type 0 = Contains lower_hex_digits in
    let is_not : ℕ → Type 0 = λ x. Contains lower_hex_digits x → ⊥ in
    let every = AllWithin is text 0 (length text) in
    let some = (i : ℕ) × (i < length text) × HoldsAt is_not text i in
    let cases : MatchBool c.all.result every some = cases_from_all _ _ _ is is_not c.all.ensures.ran (YieldsList-from_slice text cc) (λ x q called. search rules) (λ x q called. search rules) in (
      λ passed k d inside. (subst (λ b. MatchBool b every some) passed cases) k d (omega arith) inside,
      λ all. ⊎_elim
          (λ (passed : c.all.result ≡ true). passed)
          (λ (failed : c.all.result ≡ false).
          let one = subst (λ b. MatchBool b every some) failed cases in
          absurd (one.2 0 (all one.0 0 one.1)))
          (cases_Bool c.all.result),
    )
