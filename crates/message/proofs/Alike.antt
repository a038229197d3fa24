-- Messages with the same bytes are of one kind, one profile and one round.
use Rattle.std.proofs.Common.{◌≡◌, ℕ, List, [], ◌++◌, get_or, take, drop, sym, refl, ap, ◌∙◌, arith}
use Rattle.std.proofs.lemmas.List.{append_assoc, append-nil}
use Rattle.profile.specs.declared.numbers.Numbers.{Numbers}
use Rattle.packing.specs.Packing.{number, packed}
use Rattle.packing.proofs.Digits.{number_digits}
use Rattle.message.specs.declared.kind.Kind.{Kind}
use Rattle.message.specs.declared.kind.Kind.TheVariants.{Offer, Answer, Confirmation}
use Rattle.message.specs.Messages.{Message, offer, answer, confirmation, encoded, head, kind_byte, kind_of, round_of, low_first, section}
use Rattle.message.specs.MessageLaws.{TellsKindProfileAndRound}

-- what comes after the head's section
after_head : Numbers → Message → List ℕ
after_head k (offer round seed values) = section seed ++ section (packed k.w values)
after_head k (answer round values signals) = section (packed k.w values) ++ section (packed k.signal_width signals)
after_head k (confirmation round) = []

begins : (k : Numbers) (m : Message) → encoded k m ≡ section (head k (kind_of m) (round_of m)) ++ after_head k m
unfolding after_head
begins k (offer round seed values) = append_assoc (section (head k Offer round)) (section seed) (section (packed k.w values))
begins k (answer round values signals) = append_assoc (section (head k Answer round)) (section (packed k.w values)) (section (packed k.signal_width signals))
begins k (confirmation round) = sym (append-nil (section (head k Confirmation round)))

same_kind : (a b : Kind) → kind_byte a ≡ kind_byte b → a ≡ b
same_kind Offer Offer e = refl
same_kind Offer Answer e = absurd (omega arith)
same_kind Offer Confirmation e = absurd (omega arith)
same_kind Answer Offer e = absurd (omega arith)
same_kind Answer Answer e = refl
same_kind Answer Confirmation e = absurd (omega arith)
same_kind Confirmation Offer e = absurd (omega arith)
same_kind Confirmation Answer e = absurd (omega arith)
same_kind Confirmation Confirmation e = refl

pub alike : TellsKindProfileAndRound
alike k l m o m_round o_round same =
    let fronts : section (head k (kind_of m) (round_of m)) ++ after_head k m ≡ section (head l (kind_of o) (round_of o)) ++ after_head l o = sym (begins k m) ∙ same ∙ begins l o in
    let rounds : low_first 4 (round_of m) ≡ low_first 4 (round_of o) = ap (λ bytes. take 4 (drop 5 bytes)) fronts in
    record {
      kind = same_kind (kind_of m) (kind_of o) (ap (λ bytes. get_or bytes 2 0) fronts);
      numbers_byte = ap (λ bytes. get_or bytes 3 0) fronts;
      reconciler_byte = ap (λ bytes. get_or bytes 4 0) fronts;
      round = sym (number_digits 8 4 (round_of m) m_round.four_bytes) ∙ ap (number 8) rounds ∙ number_digits 8 4 (round_of o) o_round.four_bytes;
    }
