-- A fault of the head names its first wrong byte.
use Rattle.std.proofs.Common.{◌≡◌, ℕ, zero, suc, ◌+◌, ◌<◌, eqb, List, get_or, Some, Option, refl, arith}
use Rattle.std.specs.Option.{option_or}
use Rattle.std.proofs.lemmas.Bool.{cond_both, eqb-true, eqb-false}
use Rattle.profile.specs.declared.numbers.Numbers.{Numbers}
use Rattle.message.specs.declared.fault.Fault.{Fault}
use Rattle.message.specs.declared.fault.Fault.TheVariants.{WrongHead}
use Rattle.message.specs.declared.kind.Kind.{Kind}
use Rattle.message.specs.Messages.{head, kind_byte}
use Rattle.message.specs.Reading.{byte_fault, head_fault}
use Rattle.message.specs.ReadingLaws.{FaultMeans, HeadIsWrongAt}

module _ (k : Numbers) (kind : Kind) (h : List ℕ) where
  abbrev Right : ℕ → Type 0
  Right i = get_or h i 0 ≡ get_or (head k kind 0) i 0

  abbrev Means : Option Fault → Type 0
  Means fault = FaultMeans WrongHead (HeadIsWrongAt k kind h) fault

  wrong_here : (i : ℕ) → i < 3 → ((j : ℕ) → j < i → Right j) → (Right i → ⊥) → Means (Some (WrongHead (2 + i)))
  wrong_here i inside before wrong = (
    2 + i,
    refl,
    record {
      here = (i, inside, refl, wrong);
      none_sooner = λ sooner lt other. other.3 (before other.0 (omega (arith, lt, other.2)));
    },
  )

  none_before : (j : ℕ) → j < 0 → Right j
  none_before j lt = absurd (omega arith)

  one : Right 0 → (j : ℕ) → j < 1 → Right j
  one a zero lt = a
  one a (suc j) lt = absurd (omega arith)

  two : Right 0 → Right 1 → (j : ℕ) → j < 2 → Right j
  two a b zero lt = a
  two a b (suc zero) lt = b
  two a b (suc (suc j)) lt = absurd (omega arith)

  three : Right 0 → Right 1 → Right 2 → (j : ℕ) → j < 3 → Right j
  three a b c zero lt = a
  three a b c (suc zero) lt = b
  three a b c (suc (suc zero)) lt = c
  three a b c (suc (suc (suc j))) lt = absurd (omega arith)

  pub tells_wrong_heads : Means (head_fault k kind h)
  tells_wrong_heads =
      let second = byte_fault 1 k.numbers_byte h in
      let third = byte_fault 2 k.reconciler_byte h in
      cond_both (eqb (get_or h 0 0) (kind_byte kind)) _ _ (λ f. Means (option_or f (option_or second third)))
      (λ a.
      let a_right : Right 0 = eqb-true _ _ a in
      cond_both (eqb (get_or h 1 0) k.numbers_byte) _ _ (λ f. Means (option_or f third))
      (λ b.
      let b_right : Right 1 = eqb-true _ _ b in
      cond_both (eqb (get_or h 2 0) k.reconciler_byte) _ _ Means
      (λ c place wrong. wrong.3 (three a_right b_right (eqb-true _ _ c) wrong.0 wrong.1))
      (λ c. wrong_here 2 (omega arith) (two a_right b_right) (eqb-false _ _ c)))
      (λ b. wrong_here 1 (omega arith) (one a_right) (eqb-false _ _ b)))
      (λ a. wrong_here 0 (omega arith) none_before (eqb-false _ _ a))
