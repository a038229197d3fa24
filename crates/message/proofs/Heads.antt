-- Heads: one that was written is accepted, and one that is accepted was written.
use Rattle.std.proofs.Common.{◌≡◌, ℕ, ◌+◌, ◌*◌, ◌^◌, ◌<◌, eqb, List, [], ◌∷◌, length, get_or, drop, None, sym, refl, ap, ◌∙◌, arith}
use Rattle.std.specs.Option.{option_or}
use Rattle.std.proofs.lemmas.Bool.{cond-true, eqb-true, eq-eqb}
use Rattle.std.proofs.lemmas.List.{length-drop}
use Rattle.std.proofs.lemmas.List.Elements.{All-drop}
use Rattle.profile.specs.declared.numbers.Numbers.{Numbers}
use Rattle.packing.specs.Packing.{number, digits, AllFit}
use Rattle.packing.proofs.Digits.{number_digits, digits_number, number_below}
use Rattle.message.specs.declared.fault.Fault.TheVariants.{WrongHead}
use Rattle.message.specs.declared.kind.Kind.{Kind}
use Rattle.message.specs.Messages.{IsRound, head, kind_byte, low_first}
use Rattle.message.specs.Reading.{byte_fault, head_fault, round_in}
use Rattle.message.proofs.Rows.{both_none, none_from_cond}

module _ (k : Numbers) (kind : Kind) where
  -- ---- written

  pub head_right : (round : ℕ) → head_fault k kind (head k kind round) ≡ None
  head_right round =
      let first : byte_fault 0 (kind_byte kind) (head k kind round) ≡ None = cond-true _ _ _ (eq-eqb (kind_byte kind) (kind_byte kind) refl) in
      let second : byte_fault 1 k.numbers_byte (head k kind round) ≡ None = cond-true _ _ _ (eq-eqb k.numbers_byte k.numbers_byte refl) in
      let third : byte_fault 2 k.reconciler_byte (head k kind round) ≡ None = cond-true _ _ _ (eq-eqb k.reconciler_byte k.reconciler_byte refl) in
      (λ j. option_or (first j) (option_or (second j) (third j)))

  pub round_back : (round : ℕ) → IsRound round → round_in (head k kind round) ≡ round
  round_back round is = number_digits 8 4 round is.four_bytes

  -- ---- accepted

  byte_is : (i right : ℕ) (h : List ℕ) → byte_fault i right h ≡ None → get_or h i 0 ≡ right
  byte_is i right h e = eqb-true _ _ (none_from_cond (eqb (get_or h i 0) right) (WrongHead (2 + i)) None e).0

  seven : (h : List ℕ) → length h ≡ 7 → h ≡ get_or h 0 0 ∷ get_or h 1 0 ∷ get_or h 2 0 ∷ drop 3 h
  seven [] long = absurd (omega arith)
  seven (a ∷ []) long = absurd (omega arith)
  seven (a ∷ b ∷ []) long = absurd (omega arith)
  seven (a ∷ b ∷ c ∷ rest) long = refl

  pub head_back : (h : List ℕ) → AllFit 8 h → length h ≡ 7 → head_fault k kind h ≡ None → (h ≡ head k kind (round_in h)) × IsRound (round_in h)
  head_back h fit long right =
      let first = both_none (byte_fault 0 (kind_byte kind) h) (option_or (byte_fault 1 k.numbers_byte h) (byte_fault 2 k.reconciler_byte h)) right in
      let others = both_none (byte_fault 1 k.numbers_byte h) (byte_fault 2 k.reconciler_byte h) first.1 in
      let tail : length (drop 3 h) ≡ 4 = omega (arith, length-drop 3 h) in
      let fits : AllFit 8 (drop 3 h) = All-drop (λ b. b < 2 ^ 8) 3 h fit in
      let round : drop 3 h ≡ low_first 4 (round_in h) = sym (digits_number 8 (drop 3 h) fits) ∙ ap (λ n. digits 8 n (number 8 (drop 3 h))) tail in
      let below : number 8 (drop 3 h) < 2 ^ (length (drop 3 h) * 8) = number_below 8 (drop 3 h) fits in (
        seven h long ∙ (λ j. byte_is 0 (kind_byte kind) h first.0 j ∷ byte_is 1 k.numbers_byte h others.0 j ∷ byte_is 2 k.reconciler_byte h others.1 j ∷ round j),
        record { four_bytes = rw (ap (λ n. 2 ^ (n * 8)) (sym tail)) below },
      )
