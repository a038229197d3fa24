-- A written message reads back to its parts.
use Rattle.std.proofs.Common.{◌≡◌, ℕ, ◌*◌, ◌^◌, ◌<◌, List, [], ◌∷◌, length, Ok, None, sym, refl, ap, ◌∙◌, arith}
use Rattle.std.specs.Option.{option_or}
use Rattle.std.proofs.lemmas.Bool.{cond-true, lt-ltb}
use Rattle.std.proofs.lemmas.List.{append-nil}
use Rattle.profile.specs.Laws.{InRange}
use Rattle.packing.specs.Lengths.{packed_length}
use Rattle.message.specs.Lengths.{values_length, signals_length}
use Rattle.profile.specs.declared.numbers.Numbers.{Numbers}
use Rattle.profile.proofs.Ranges.{n_most}
use Rattle.packing.specs.Packing.{number, packed, unpacked}
use Rattle.packing.proofs.Eights.{length-packed}
use Rattle.packing.proofs.PackedLengths.{two_bytes_each}
use Rattle.packing.proofs.Laws.{number_of_packed, unpacks_what_was_packed}
use Rattle.packing.proofs.Digits.{number_below}
use Rattle.message.specs.declared.kind.Kind.TheVariants.{Offer, Answer, Confirmation}
use Rattle.message.specs.Messages.{offer, answer, confirmation, AreNumbers, HasLawfulParts, IsRound, encoded, head}
use Rattle.message.specs.MessageLaws.{ReadsBack}
use Rattle.message.specs.Reading.{head_fault, reading, round_in, round_read, spare_bit_fault, spare_fault}
use Rattle.ring.specs.Faults.{unless}
use Rattle.message.specs.Shapes.{contents, layout, offset}
use Rattle.message.proofs.Heads.{head_right, round_back}
use Rattle.message.proofs.Rows.{AreLong, row, row_back, row_right, three_in_a_row}

-- ---- numbers in a section

module _ (n w : ℕ) (xs : List ℕ) (are : AreNumbers n w xs) where
  pub packed_long : length (packed w xs) ≡ packed_length n w
  packed_long = length-packed w xs ∙ ap (λ m. packed_length m w) are.count

  numbers_back : unpacked w n (packed w xs) ≡ xs
  numbers_back = ap (λ m. unpacked w m (packed w xs)) (sym are.count) ∙ unpacks_what_was_packed w xs are.fit

  no_spare_bits : (at many : ℕ) → spare_bit_fault n w at many (packed w xs) ≡ None
  no_spare_bits at many =
      let below : number 8 (packed w xs) < 2 ^ (n * w) = rw (number_of_packed w xs are.fit, ap (λ m. 2 ^ (m * w)) (sym are.count)) (number_below w xs are.fit) in
      cond-true _ _ _ (lt-ltb (number 8 (packed w xs)) (2 ^ (n * w)) below)

module _ (k : Numbers) (range : InRange k) where
  pub values_few : values_length k < 2 ^ 16
  values_few = omega (arith, two_bytes_each k.n k.w range.w_most, n_most k range)

  pub signals_few : signals_length k < 2 ^ 16
  signals_few = omega (arith, two_bytes_each k.n k.signal_width (omega (arith, range.width_most)), n_most k range)

  -- ---- each kind

  offer_back : (round : ℕ) (seed values : List ℕ) → HasLawfulParts k (offer round seed values) → reading k Offer (encoded k (offer round seed values)) ≡ Ok (offer round seed values)
  offer_back round seed values lawful =
      let m = encoded k (offer round seed values) in
      let h = head k Offer round in
      let v = packed k.w values in
      let cs = h ∷ seed ∷ v ∷ [] in
      let long : AreLong (layout k Offer) cs = ((refl, omega arith), ((lawful.1.long, omega arith), ((packed_long k.n k.w values lawful.2, values_few), tt))) in
      let shape = row_right m [] 0 (layout k Offer) cs (three_in_a_row h seed v) refl long in
      let back = row_back m [] 0 (layout k Offer) cs (three_in_a_row h seed v) refl long in
      let round_is : round_read k Offer m ≡ round = ap round_in back.0 ∙ round_back k Offer round lawful.0 in
      let right : head_fault k Offer (contents k Offer 0 m) ≡ None = ap (head_fault k Offer) back.0 ∙ head_right k Offer round in
      let values_are : unpacked k.w k.n (contents k Offer 2 m) ≡ values = ap (unpacked k.w k.n) back.1.1.0 ∙ numbers_back k.n k.w values lawful.2 in
      (λ j. unless (option_or (shape j) (option_or (right j) None)) (offer (round_is j) (back.1.0 j) (values_are j)))

  answer_back : (round : ℕ) (values signals : List ℕ) → HasLawfulParts k (answer round values signals) → reading k Answer (encoded k (answer round values signals)) ≡ Ok (answer round values signals)
  answer_back round values signals lawful =
      let m = encoded k (answer round values signals) in
      let h = head k Answer round in
      let v = packed k.w values in
      let s = packed k.signal_width signals in
      let cs = h ∷ v ∷ s ∷ [] in
      let long : AreLong (layout k Answer) cs = ((refl, omega arith), ((packed_long k.n k.w values lawful.1, values_few), ((packed_long k.n k.signal_width signals lawful.2, signals_few), tt))) in
      let shape = row_right m [] 0 (layout k Answer) cs (three_in_a_row h v s) refl long in
      let back = row_back m [] 0 (layout k Answer) cs (three_in_a_row h v s) refl long in
      let round_is : round_read k Answer m ≡ round = ap round_in back.0 ∙ round_back k Answer round lawful.0 in
      let right : head_fault k Answer (contents k Answer 0 m) ≡ None = ap (head_fault k Answer) back.0 ∙ head_right k Answer round in
      let at = offset k Answer 2 in
      let spare : spare_fault k Answer m ≡ None =
      ap (spare_bit_fault k.n k.signal_width at (signals_length k)) back.1.1.0 ∙ no_spare_bits k.n k.signal_width signals lawful.2 at (signals_length k) in
      let values_are : unpacked k.w k.n (contents k Answer 1 m) ≡ values = ap (unpacked k.w k.n) back.1.0 ∙ numbers_back k.n k.w values lawful.1 in
      let signals_are : unpacked k.signal_width k.n (contents k Answer 2 m) ≡ signals = ap (unpacked k.signal_width k.n) back.1.1.0 ∙ numbers_back k.n k.signal_width signals lawful.2 in
      (λ j. unless (option_or (shape j) (option_or (right j) (spare j))) (answer (round_is j) (values_are j) (signals_are j)))

  confirmation_back : (round : ℕ) → IsRound round → reading k Confirmation (encoded k (confirmation round)) ≡ Ok (confirmation round)
  confirmation_back round is =
      let m = encoded k (confirmation round) in
      let h = head k Confirmation round in
      let long : AreLong (layout k Confirmation) (h ∷ []) = ((refl, omega arith), tt) in
      let alone : m ≡ row (h ∷ []) = sym (append-nil m) in
      let shape = row_right m [] 0 (layout k Confirmation) (h ∷ []) alone refl long in
      let back = row_back m [] 0 (layout k Confirmation) (h ∷ []) alone refl long in
      let round_is : round_read k Confirmation m ≡ round = ap round_in back.0 ∙ round_back k Confirmation round is in
      let right : head_fault k Confirmation (contents k Confirmation 0 m) ≡ None = ap (head_fault k Confirmation) back.0 ∙ head_right k Confirmation round in
      (λ j. unless (option_or (shape j) (option_or (right j) None)) (confirmation (round_is j)))

  pub reads_back : ReadsBack k
  reads_back (offer round seed values) lawful = offer_back round seed values lawful
  reads_back (answer round values signals) lawful = answer_back round values signals lawful
  reads_back (confirmation round) lawful = confirmation_back round lawful
