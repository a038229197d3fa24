-- What holds of every derivation.
use Rattle.std.proofs.Common.{◌≡◌, ℕ, zero, suc, ◌-◌, ◌/◌, ◌%◌, ◌^◌, ◌<◌, ◌≤◌, true, eqb, ltb, leb, List, ◌∷◌, ◌++◌, map, length, take, drop, Ok, Err, Result, OnOk, filter, sym, refl, ap, ◌∙◌, subst, ap₂, ⊎_elim, arith}
use native.Mathlib.Nat.{div-eq_of_lt, div-eq-sub-div}
use Rattle.std.proofs.lemmas.Nat.{le-div}
use Rattle.std.proofs.lemmas.List.Elements.{All-take, All-weaker, filter_passes, filter-append}
use Rattle.std.proofs.lemmas.List.{length-append, length-drop, length-take, length-take-le, map-append, take-append-le, drop-append-le}
use Rattle.std.proofs.lemmas.Bool.{cases_lt, cond-true, cond_both, eq-eqb, le-leb, eqb-true, eqb-false, leb-true, leb-false, ltb-true}
use Rattle.keccak.specs.Sponge.{little_endian}
use Rattle.ring.specs.Elements.{AllBelow, IsElement}
use Rattle.ring.specs.Faults.{after}
use Rattle.ring.specs.declared.fault.Fault.{Fault}
use Rattle.byte_source.specs.Derivation.{bits, bytes_for, groups, candidates, kept, derived, derive_outcome}
use Rattle.byte_source.specs.Laws.{DerivationLaws, DeriveMeans}
use Rattle.byte_source.proofs.Groups.{groups_none, groups_more}
use Rattle.byte_source.proofs.Keeping.{bits_some}

pub kept_below : (q : ℕ) (bytes : List ℕ) → AllBelow q (kept q bytes)
unfolding kept
kept_below q bytes = All-weaker (λ x. ltb x q ≡ true) (λ x. x < q) (λ x t. ltb-true x q t) (kept q bytes) (filter_passes (λ x. ltb x q) (candidates q bytes))

pub derive_means : (n q : ℕ) (bytes : List ℕ) (places : ℕ) → DeriveMeans n q bytes places (derive_outcome n q bytes places)
derive_means n q bytes places =
    cond_both (eqb places n) _ _ (DeriveMeans n q bytes places)
    (λ same.
    let fit : places ≡ n = eqb-true _ _ same in
    cond_both (leb n (length (kept q bytes))) _ _ (DeriveMeans n q bytes places)
    (λ enough. (
      fit,
      record {
        long = length-take-le n (kept q bytes) (leb-true _ _ enough);
        below = All-take (λ x. x < q) n (kept q bytes) (kept_below q bytes);
      },
    ))
    (λ few. (fit, refl, leb-false _ _ few)))
    (λ other. (eqb-false _ _ other, refl))

-- what an outcome that is the defined one says
pub outcome_means : (n q : ℕ) (bytes : List ℕ) (places : ℕ) (outcome : Result (Unit {0}) Fault) → outcome ≡ derive_outcome n q bytes places → DeriveMeans n q bytes places outcome
outcome_means n q bytes places outcome is = subst (DeriveMeans n q bytes places) (sym is) (derive_means n q bytes places)

-- an accepted derivation leaves an element
pub accepted_is_element : (n q : ℕ) (bytes : List ℕ) (places : ℕ) (outcome : Result (Unit {0}) Fault) (old new : List ℕ) → outcome ≡ derive_outcome n q bytes places → new ≡ after outcome (derived n q bytes) old → OnOk outcome (IsElement n q new)
accepted_is_element n q bytes places (Ok _) old new is written = subst (IsElement n q) (sym written) (outcome_means n q bytes places (Ok _) is).1
accepted_is_element n q bytes places (Err _) old new is written = tt

pub enough_is_accepted : (n q : ℕ) (bytes : List ℕ) (places : ℕ) → places ≡ n → n ≤ length (kept q bytes) → derive_outcome n q bytes places ≡ Ok tt
enough_is_accepted n q bytes places fit enough =
    cond-true _ _ _ (eq-eqb places n fit) ∙ cond-true _ _ _ (le-leb n (length (kept q bytes)) enough)

-- ---- bytes after those that suffice

groups_append : (c : ℕ) → 0 < c → (m : ℕ) (bytes more : List ℕ) → length bytes / c ≡ m → (rest : List ℕ) × (groups c (bytes ++ more) ≡ groups c bytes ++ rest)
groups_append c some zero bytes more is =
    let short : length bytes < c = ⊎_elim (λ lt. lt) (λ le. absurd (omega (arith, le-div 1 (length bytes) c some (omega arith)))) (cases_lt (length bytes) c) in
    (groups c (bytes ++ more), ap (λ (xs : List ℕ). xs ++ groups c (bytes ++ more)) (sym (groups_none c bytes short)))
groups_append c some (suc m) bytes more is =
    let whole : c ≤ length bytes = ⊎_elim (λ lt. absurd (omega (arith, div-eq_of_lt lt))) (λ le. le) (cases_lt (length bytes) c) in
    let left : length (drop c bytes) / c ≡ m = ap (λ n. n / c) (length-drop c bytes) ∙ omega (arith, div-eq-sub-div some whole) in
    let after = groups_append c some m (drop c bytes) more left in (
      after.0,
      groups_more c (bytes ++ more) some (omega (arith, length-append bytes more))
          ∙ ap₂ (λ (x : ℕ) (xs : List ℕ). x ∷ xs) (ap little_endian (take-append-le c bytes more whole)) (ap (groups c) (drop-append-le c bytes more whole) ∙ after.1)
          ∙ ap (λ (xs : List ℕ). xs ++ after.0) (sym (groups_more c bytes some whole)),
    )

kept_append : (q : ℕ) → 1 < q → (bytes more : List ℕ) → (rest : List ℕ) × (kept q (bytes ++ more) ≡ kept q bytes ++ rest)
unfolding kept candidates
kept_append q least bytes more =
    let c = bytes_for (bits (q - 1)) in
    let low : ℕ → ℕ = λ x. x % 2 ^ bits (q - 1) in
    let after = groups_append c (omega (arith, bits_some q least)) (length bytes / c) bytes more refl in (
      filter (λ x. ltb x q) (map low after.0),
      ap (λ (xs : List ℕ). filter (λ x. ltb x q) (map low xs)) after.1
          ∙ ap (filter (λ x. ltb x q)) (map-append low (groups c bytes) after.0)
          ∙ filter-append (λ x. ltb x q) (map low (groups c bytes)) (map low after.0),
    )

pub derived_stable : (n q : ℕ) (bytes more : List ℕ) (places : ℕ) → 1 < q → derive_outcome n q bytes places ≡ Ok tt → derived n q (bytes ++ more) ≡ derived n q bytes
derived_stable n q bytes more places least accepted =
    let after = kept_append q least bytes more in
    let element = (subst (DeriveMeans n q bytes places) accepted (derive_means n q bytes places)).1 in
    let enough : n ≤ length (kept q bytes) = omega (arith, element.long, length-take n (kept q bytes)) in
    ap (take n) after.1 ∙ take-append-le n (kept q bytes) after.0 enough

pub derivation_laws : DerivationLaws
derivation_laws = record { means = derive_means; accepts = enough_is_accepted; stable = derived_stable }
