-- Lawful parts are accepted by writing, and what is written of them is bytes, as many as a message of the kind has.
use Rattle.std.proofs.Common.{◌≡◌, ℕ, ◌^◌, ◌<◌, List, ◌∷◌, ◌++◌, length, refl, arith}
use Rattle.std.proofs.lemmas.List.{length-append}
use Rattle.std.proofs.lemmas.List.Elements.{All-append, All-cons}
use Rattle.profile.specs.Laws.{InRange}
use Rattle.message.specs.Lengths.{offer_length, answer_length, values_length, signals_length}
use Rattle.packing.specs.Lengths.{packed_length}
use Rattle.profile.specs.declared.numbers.Numbers.{Numbers}
use Rattle.packing.specs.Packing.{AllFit, number, packed}
use Rattle.packing.proofs.Digits.{digits_fit}
use Rattle.message.specs.declared.kind.Kind.{Kind}
use Rattle.message.specs.declared.kind.Kind.TheVariants.{Offer, Answer, Confirmation}
use Rattle.message.specs.Messages.{Message, offer, answer, confirmation, HasLawfulParts, encoded, head, kind_byte, low_first, section}
use Rattle.message.specs.MessageLaws.{WritesLawfulParts}
use Rattle.message.proofs.ReadBack.{packed_long}
use Rattle.message.proofs.WritingLaws.{accepts_what_fits}

-- ---- bytes

bytes_joined : (a b : List ℕ) → AllFit 8 a → AllFit 8 b → AllFit 8 (a ++ b)
bytes_joined a b a_fits b_fits = All-append (λ x. x < 2 ^ 8) a b a_fits b_fits

byte_before : (b : ℕ) (bytes : List ℕ) → b < 2 ^ 8 → AllFit 8 bytes → AllFit 8 (b ∷ bytes)
byte_before b bytes small fit = All-cons (λ x. x < 2 ^ 8) b bytes small fit

section_fits : (contents : List ℕ) → AllFit 8 contents → AllFit 8 (section contents)
section_fits contents fit = bytes_joined (low_first 2 (length contents)) contents (digits_fit 8 2 (length contents)) fit

packed_section_fits : (w : ℕ) (xs : List ℕ) → AllFit 8 (section (packed w xs))
packed_section_fits w xs = section_fits (packed w xs) (digits_fit 8 (packed_length (length xs) w) (number w xs))

kind_byte_below : (kind : Kind) → kind_byte kind < 2 ^ 8
kind_byte_below Offer = omega arith
kind_byte_below Answer = omega arith
kind_byte_below Confirmation = omega arith

module _ (k : Numbers) (range : InRange k) where
  head_section_fits : (kind : Kind) (round : ℕ) → AllFit 8 (section (head k kind round))
  head_section_fits kind round =
      let rounds = low_first 4 round in
      section_fits (head k kind round)
      (byte_before (kind_byte kind) (k.numbers_byte ∷ k.reconciler_byte ∷ rounds) (kind_byte_below kind)
      (byte_before k.numbers_byte (k.reconciler_byte ∷ rounds) range.numbers_byte_below
      (byte_before k.reconciler_byte rounds range.reconciler_byte_below (digits_fit 8 4 round))))

  is_bytes : (m : Message) → HasLawfulParts k m → AllFit 8 (encoded k m)
  is_bytes (offer round seed values) lawful =
      let h = section (head k Offer round) in
      bytes_joined (h ++ section seed) (section (packed k.w values))
      (bytes_joined h (section seed) (head_section_fits Offer round) (section_fits seed lawful.1.bytes)) (packed_section_fits k.w values)
  is_bytes (answer round values signals) lawful =
      let h = section (head k Answer round) in
      let v = section (packed k.w values) in
      bytes_joined (h ++ v) (section (packed k.signal_width signals))
      (bytes_joined h v (head_section_fits Answer round) (packed_section_fits k.w values)) (packed_section_fits k.signal_width signals)
  is_bytes (confirmation round) lawful = head_section_fits Confirmation round

  -- ---- accepted

  pub writes_lawful_parts : (m : Message) → HasLawfulParts k m → WritesLawfulParts k m
  writes_lawful_parts (offer round seed values) lawful =
      let m = offer round seed values in
      let h = head k Offer round in
      let v = packed k.w values in
      let v_long : length v ≡ values_length k = packed_long k.n k.w values lawful.2 in
      record {
        length = omega (arith, length-append (section h ++ section seed) (section v), v_long, lawful.1.long);
        is_bytes = is_bytes m lawful;
        accepted = accepts_what_fits k m (offer_length k) (lawful.2.count, refl) lawful.2.fit;
      }
  writes_lawful_parts (answer round values signals) lawful =
      let m = answer round values signals in
      let h = head k Answer round in
      let v = packed k.w values in
      let s = packed k.signal_width signals in
      let v_long : length v ≡ values_length k = packed_long k.n k.w values lawful.1 in
      let s_long : length s ≡ signals_length k = packed_long k.n k.signal_width signals lawful.2 in
      record {
        length = omega (arith, length-append (section h ++ section v) (section s), length-append (section h) (section v), v_long, s_long);
        is_bytes = is_bytes m lawful;
        accepted = accepts_what_fits k m (answer_length k) (lawful.1.count, lawful.2.count, refl) (lawful.1.fit, lawful.2.fit);
      }
  writes_lawful_parts (confirmation round) lawful =
      record { length = refl; is_bytes = is_bytes (confirmation round) lawful; accepted = refl }
