-- An accepted message is what its parts are written as.
use Rattle.std.proofs.Common.{◌≡◌, ℕ, ◌+◌, ◌-◌, ◌*◌, ◌^◌, ◌<◌, List, ◌++◌, length, Ok, Result, Some, None, Option, ltb, sym, refl, ap, ◌∙◌, subst, arith}
use Rattle.std.specs.Option.{option_or}
use Rattle.std.proofs.lemmas.Bool.{ltb-true}
use Rattle.std.proofs.lemmas.List.{append-nil}
use Rattle.profile.specs.Laws.{InRange}
use Rattle.message.specs.Lengths.{values_length, signals_length}
use Rattle.profile.specs.declared.numbers.Numbers.{Numbers}
use Rattle.packing.specs.Packing.{number, packed, unpacked, AllFit}
use Rattle.packing.proofs.Laws.{packs_below}
use Rattle.packing.proofs.Digits.{number_below, length-digits, digits_fit}
use Rattle.message.specs.declared.fault.Fault.{Fault}
use Rattle.message.specs.declared.fault.Fault.TheVariants.{SpareBit}
use Rattle.message.specs.declared.kind.Kind.{Kind}
use Rattle.message.specs.declared.kind.Kind.TheVariants.{Offer, Answer, Confirmation}
use Rattle.message.specs.Messages.{Message, AreNumbers, section}
use Rattle.message.specs.MessageLaws.{IsWrittenFromItsParts, WrittenFrom}
use Rattle.message.specs.Reading.{head_fault, parts, reading_fault, spare_bit_fault, spare_fault}
use Rattle.ring.specs.Faults.{unless}
use Rattle.message.specs.Shapes.{contents, layout, offset, shape_fault}
use Rattle.message.proofs.Heads.{head_back}
use Rattle.message.proofs.Rows.{AreFound, both_none, contents_from, none_from_cond, row, row_found, row_written, three_in_a_row}

-- nothing is refused where something is accepted
accepted : (f : Option Fault) (p m : Message) → ◌≡◌ {A = Result Message Fault} (unless f p) (Ok m) → (f ≡ None) × (p ≡ m)
accepted None p m e = (refl, same_ok e)
  where
    same_ok : ◌≡◌ {A = Result Message Fault} (Ok p) (Ok m) → p ≡ m
    same_ok e = cc
accepted (Some f) p m e = absurd (let z : ◌≡◌ {A = ℕ} 0 1 = cc in omega arith)

unpacked_lawful : (n w : ℕ) (bytes : List ℕ) → AreNumbers n w (unpacked w n bytes)
unpacked_lawful n w bytes = record { count = length-digits w n (number 8 bytes); fit = digits_fit w n (number 8 bytes) }

module _ (k : Numbers) (range : InRange k) (bytes : List ℕ) (fit : AllFit 8 bytes) where
  -- rounded values take whole bytes
  values_again : (b : List ℕ) → AllFit 8 b → length b ≡ values_length k → packed k.w (unpacked k.w k.n b) ≡ b
  values_again b fits long =
      let bits : length b * 8 ≡ k.n * k.w = omega (arith, range.whole_bytes) in
      let below : number 8 b < 2 ^ (length b * 8) = number_below 8 b fits in
      packs_below k.w k.n b fits long (rw (ap (λ e. 2 ^ e) (sym bits)) below)

  signals_again : (b : List ℕ) (at : ℕ) → AllFit 8 b → length b ≡ signals_length k → spare_bit_fault k.n k.signal_width at (signals_length k) b ≡ None → packed k.signal_width (unpacked k.signal_width k.n b) ≡ b
  signals_again b at fits long clear =
      let below : number 8 b < 2 ^ (k.n * k.signal_width) = ltb-true _ _ (none_from_cond (ltb (number 8 b) (2 ^ (k.n * k.signal_width))) (SpareBit (at + signals_length k - 1)) None clear).0 in
      packs_below k.signal_width k.n b fits long below

  -- what is accepted has the right shape, the right head and no spare bit
  module _ (kind : Kind) (none : reading_fault k kind bytes ≡ None) where
    shape : shape_fault 0 (layout k kind) bytes ≡ None
    shape = (both_none (shape_fault 0 (layout k kind) bytes) (option_or (head_fault k kind (contents k kind 0 bytes)) (spare_fault k kind bytes)) none).0

    others : (head_fault k kind (contents k kind 0 bytes) ≡ None) × (spare_fault k kind bytes ≡ None)
    others =
        both_none (head_fault k kind (contents k kind 0 bytes)) (spare_fault k kind bytes)
        (both_none (shape_fault 0 (layout k kind) bytes) (option_or (head_fault k kind (contents k kind 0 bytes)) (spare_fault k kind bytes)) none).1

    sections : AreFound bytes 0 (layout k kind)
    sections = row_found bytes fit 0 (layout k kind) shape

    written : bytes ≡ row (contents_from bytes 0 (layout k kind))
    written = row_written bytes fit 0 (layout k kind) shape

  offer_again : reading_fault k Offer bytes ≡ None → WrittenFrom k Offer bytes (parts k Offer bytes)
  offer_again none =
      let h = contents k Offer 0 bytes in
      let seed = contents k Offer 1 bytes in
      let v = contents k Offer 2 bytes in
      let found = sections Offer none in
      let headed = head_back k Offer h found.0.1 found.0.0 (others Offer none).0 in
      let valued = values_again v found.1.1.0.1 found.1.1.0.0 in
      record {
        same_kind = refl;
        lawful = (headed.1, record { long = found.1.0.0; bytes = found.1.0.1 }, unpacked_lawful k.n k.w v);
        same_bytes = (λ j. section (sym headed.0 j) ++ section seed ++ section (valued j)) ∙ three_in_a_row h seed v ∙ sym (written Offer none);
      }

  answer_again : reading_fault k Answer bytes ≡ None → WrittenFrom k Answer bytes (parts k Answer bytes)
  answer_again none =
      let h = contents k Answer 0 bytes in
      let v = contents k Answer 1 bytes in
      let s = contents k Answer 2 bytes in
      let found = sections Answer none in
      let right = others Answer none in
      let headed = head_back k Answer h found.0.1 found.0.0 right.0 in
      let valued = values_again v found.1.0.1 found.1.0.0 in
      let signalled = signals_again s (offset k Answer 2) found.1.1.0.1 found.1.1.0.0 right.1 in
      record {
        same_kind = refl;
        lawful = (headed.1, unpacked_lawful k.n k.w v, unpacked_lawful k.n k.signal_width s);
        same_bytes = (λ j. section (sym headed.0 j) ++ section (valued j) ++ section (signalled j)) ∙ three_in_a_row h v s ∙ sym (written Answer none);
      }

  confirmation_again : reading_fault k Confirmation bytes ≡ None → WrittenFrom k Confirmation bytes (parts k Confirmation bytes)
  confirmation_again none =
      let h = contents k Confirmation 0 bytes in
      let found = sections Confirmation none in
      let headed = head_back k Confirmation h found.0.1 found.0.0 (others Confirmation none).0 in
      record {
        same_kind = refl;
        lawful = headed.1;
        same_bytes = ap section (sym headed.0) ∙ sym (append-nil (section h)) ∙ sym (written Confirmation none);
      }

  parts_again : (kind : Kind) → reading_fault k kind bytes ≡ None → WrittenFrom k kind bytes (parts k kind bytes)
  parts_again Offer none = offer_again none
  parts_again Answer none = answer_again none
  parts_again Confirmation none = confirmation_again none

pub is_written_from_its_parts : (k : Numbers) → InRange k → IsWrittenFromItsParts k
is_written_from_its_parts k range kind bytes m fit read =
    let both = accepted (reading_fault k kind bytes) (parts k kind bytes) m read in
    subst (WrittenFrom k kind bytes) both.1 (parts_again k range bytes fit kind both.0)
