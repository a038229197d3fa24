-- What each outcome of reading says of the bytes.
use Rattle.std.proofs.Common.{◌≡◌, ℕ, ◌+◌, ◌<◌, ◌≤◌, ◌^◌, List, length, drop, get_or, inl, inr, Err, Result, Some, None, Option, sym, refl, subst, ⊎_elim, arith}
use Rattle.std.specs.Option.{option_or}
use Rattle.std.proofs.lemmas.Bool.{cases_lt}
use Rattle.std.proofs.lemmas.List.{length-drop, length-take-le}
use Rattle.std.proofs.lemmas.List.Elements.{All-take, All-drop}
use Rattle.profile.specs.declared.numbers.Numbers.{Numbers}
use Rattle.packing.specs.Packing.{AllFit}
use Rattle.packing.proofs.Splitting.{bytes_fit}
use Rattle.ring.specs.Faults.{unless}
use Rattle.message.specs.declared.fault.Fault.{Fault}
use Rattle.message.specs.declared.fault.Fault.TheVariants.{WrongShape, WrongHead, SpareBit}
use Rattle.message.specs.declared.kind.Kind.{Kind}
use Rattle.message.specs.declared.kind.Kind.TheVariants.{Offer, Answer, Confirmation}
use Rattle.message.specs.Lengths.{signals_length}
use Rattle.message.specs.Messages.{Message}
use Rattle.message.specs.Reading.{head_fault, parts, reading, spare_fault}
use Rattle.message.specs.ReadingLaws.{FaultMeans, Nowhere, ReadingMeans, SpareBitAt, WrongHeadAt, WrongShapeAt}
use Rattle.message.specs.Shapes.{contents, layout, offset, shape_fault}
use Rattle.message.proofs.LeastPlaces.{tells_wrong_shapes}
use Rattle.message.proofs.SpareLaws.{names_spare_bit}
use Rattle.message.proofs.WrongHeads.{tells_wrong_heads}

-- an answer of the right shape has room for its signals
signals_inside : (k : Numbers) (message : List ℕ) → Nowhere (WrongShapeAt k Answer message) → offset k Answer 2 + signals_length k ≤ length message
signals_inside k message right =
    ⊎_elim
    (λ (short : length message < offset k Answer 2 + signals_length k).
    absurd (right (offset k Answer 2) (inr (inr (inr (inr (inr (inl (refl, omega arith)))))))))
    (λ (fits : offset k Answer 2 + signals_length k ≤ length message). fits)
    (cases_lt (length message) (offset k Answer 2 + signals_length k))

module _ (k : Numbers) where
  -- once the shape is right
  spare_means : (kind : Kind) (message : List ℕ) → AllFit 8 message → Nowhere (WrongShapeAt k kind message) → FaultMeans SpareBit (SpareBitAt k kind message) (spare_fault k kind message)
  spare_means Offer message fit right = λ place wrong. wrong
  spare_means Answer message fit right =
      let rest = drop (offset k Answer 2) message in
      let few = signals_length k in
      let long : length (contents k Answer 2 message) ≡ few = length-take-le few rest (omega (arith, length-drop (offset k Answer 2) message, signals_inside k message right)) in
      let fits : AllFit 8 (contents k Answer 2 message) = All-take (λ b. b < 2 ^ 8) few rest (All-drop (λ b. b < 2 ^ 8) (offset k Answer 2) message fit) in
      names_spare_bit k.n k.signal_width (offset k Answer 2) (contents k Answer 2 message) fits long
  spare_means Confirmation message fit right = λ place wrong. wrong

  -- three tests, one after another
  module _ (kind : Kind) (message : List ℕ) where
    in_order : (shape head spare : Option Fault) → FaultMeans WrongShape (WrongShapeAt k kind message) shape → FaultMeans WrongHead (WrongHeadAt k kind message) head → (Nowhere (WrongShapeAt k kind message) → FaultMeans SpareBit (SpareBitAt k kind message) spare) → ReadingMeans k kind message (unless (option_or shape (option_or head spare)) (parts k kind message))
    in_order None None None shape head spare = (shape, head, spare shape, refl)
    in_order None None (Some fault) shape head spare =
        let is = spare shape in
        subst (λ f. ReadingMeans k kind message (Err f)) (sym is.1) (shape, head, is.2)
    in_order None (Some fault) rest shape head spare = subst (λ f. ReadingMeans k kind message (Err f)) (sym head.1) (shape, head.2)
    in_order (Some fault) others rest shape head spare = subst (λ f. ReadingMeans k kind message (Err f)) (sym shape.1) shape.2

  pub reading_means : (kind : Kind) (message : List ℕ) → AllFit 8 message → ReadingMeans k kind message (reading k kind message)
  reading_means kind message fit =
      in_order kind message (shape_fault 0 (layout k kind) message) (head_fault k kind (contents k kind 0 message)) (spare_fault k kind message)
      (tells_wrong_shapes 0 (layout k kind) message) (tells_wrong_heads k kind (contents k kind 0 message)) (spare_means kind message fit)

  -- the same of an outcome that is that of reading
  pub read_means : (kind : Kind) (message : List ℕ) (outcome : Result Message Fault) → ((i : ℕ) → get_or message i 0 < 256) → outcome ≡ reading k kind message → ReadingMeans k kind message outcome
  read_means kind message outcome bytes is = subst (ReadingMeans k kind message) (sym is) (reading_means kind message (bytes_fit message bytes))
