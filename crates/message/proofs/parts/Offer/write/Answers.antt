use Rattle.std.proofs.Common.{◌≡◌, ◌∙◌, Ok, length, ap, subst, arith, rules}
use Rattle.packing.specs.Lengths.{packed_length}
use Rattle.profile.specs.declared.numbers.Numbers.{Numbers}
use Rattle.packing.specs.Packing.{packed, AllFit}
use Rattle.packing.proofs.Eights.{length-packed}
use Rattle.message.specs.Messages.{encoded, head, offer, section}
use Rattle.message.specs.Reading.{reading}
use Rattle.message.specs.declared.kind.Kind.TheVariants.{Offer}
use Rattle.message.specs.Sections.{written_at}
use Rattle.message.proofs.WritingLaws.{written_means}
use Rattle.message.proofs.ReadBack.{reads_back}
use Rattle.message.proofs.Written.{three_written}
use Rattle.message.proofs.parts.Offer.write.Goals as goal

pub returns-clause-writes : goal.returns-clause-writes
returns-clause-writes g c =
    let k = g.P.Profile.NUMBERS in
    let fields = c.in_ok-values.values in
    let width : fields.width ≡ k.w = search rules in
    let numbers : fields.numbers ≡ c.self.inside.values.now = search rules in
    let values = packed k.w c.self.inside.values.now in
    let contents : packed fields.width fields.numbers ≡ values = (λ j. packed (width j) (numbers j)) in
    let count : length c.self.inside.values.now ≡ k.n = omega (arith, c.if-values-NUMBERS.false, ap (λ (s : Numbers). s.n) c.NUMBERS.ensures) in
    let long = length-packed k.w c.self.inside.values.now ∙ ap (λ n. packed_length n k.w) count in
    three_written (section (head k Offer c.self.inside.round)) (section c.self.inside.seed.now) (section values) c.args.out.now _ _ _ _ _
    (c.write_section-at.ensures.writes ∙ ap (λ h. written_at 0 (section h) c.args.out.now) c.head.ensures.bytes)
    (omega (arith, c.write_section-at.ensures.end))
    c.write_section-at-2.ensures.writes
    (omega (arith, c.write_section-at-2.ensures.end))
    (c.pack_section.ensures.writes ∙ ap (λ bytes. written_at c.write_section-at-2.result (section bytes) c.write_section-at-2.new.out) contents)
    (omega (arith, long, c.offer_length.ensures, c.if-out-offer_length.false))
    ∙ ap (encoded k) c.self.view_is

pub returns-clause-reads_back : goal.returns-clause-reads_back
returns-clause-reads_back g c =
    let k = g.P.Profile.NUMBERS in
    let count : length c.self.inside.values.now ≡ k.n = omega (arith, c.if-values-NUMBERS.false, ap (λ (s : Numbers). s.n) c.NUMBERS.ensures) in
    let fit : AllFit k.w c.self.inside.values.now = search rules in
    ap (reading k Offer) (returns-clause-writes g c)
    ∙ subst (λ m. reading k Offer (encoded k m) ≡ Ok m) c.self.view_is
    (reads_back k g.met.P.Profile.lawful.in_range (offer c.self.inside.round c.self.inside.seed.now c.self.inside.values.now)
    (c.head.ensures.round, record { long = omega arith; bytes = c.write_section-at-2.ensures.bytes }, record { count = count; fit = fit }))

pub returns-in_err-values-clause-means : goal.returns-in_err-values-clause-means
returns-in_err-values-clause-means g c =
    written_means g.P.Profile.NUMBERS c.args.self (length c.args.out.now) c.from_residual.result (search rules)
