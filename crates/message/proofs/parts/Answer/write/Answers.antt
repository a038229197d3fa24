use Rattle.std.proofs.Common.{◌≡◌, ◌∙◌, Ok, length, ap, subst, arith, rules}
use Rattle.packing.specs.Lengths.{packed_length}
use Rattle.profile.specs.declared.numbers.Numbers.{Numbers}
use Rattle.packing.specs.Packing.{packed, AllFit}
use Rattle.packing.proofs.Eights.{length-packed}
use Rattle.message.specs.Messages.{answer, encoded, head, section}
use Rattle.message.specs.Reading.{reading}
use Rattle.message.specs.declared.kind.Kind.TheVariants.{Answer}
use Rattle.message.specs.Sections.{written_at}
use Rattle.message.proofs.WritingLaws.{written_means}
use Rattle.message.proofs.ReadBack.{reads_back}
use Rattle.message.proofs.Written.{three_written}
use Rattle.message.proofs.parts.Answer.write.Goals as goal

pub returns-clause-writes : goal.returns-clause-writes
returns-clause-writes g c =
    let k = g.P.Profile.NUMBERS in
    let values = packed k.w c.self.inside.values.now in
    let signals = packed k.signal_width c.self.inside.signals.now in
    let values_w : c.in_ok-values.values.width ≡ k.w = search rules in
    let values_are : c.in_ok-values.values.numbers ≡ c.self.inside.values.now = search rules in
    let signals_w : c.in_ok-signals.signals.width ≡ k.signal_width = search rules in
    let signals_are : c.in_ok-signals.signals.numbers ≡ c.self.inside.signals.now = search rules in
    let degree = ap (λ (s : Numbers). s.n) c.NUMBERS-n.ensures in
    let values_long = length-packed k.w c.self.inside.values.now ∙ ap (λ n. packed_length n k.w) (c.if-values-n.false ∙ degree) in
    let signals_long = length-packed k.signal_width c.self.inside.signals.now ∙ ap (λ n. packed_length n k.signal_width) (c.if-signals-n.false ∙ degree) in
    three_written (section (head k Answer c.self.inside.round)) (section values) (section signals) c.args.out.now _ _ _ _ _
    (c.write_section-at.ensures.writes ∙ ap (λ h. written_at 0 (section h) c.args.out.now) c.head.ensures.bytes)
    (omega (arith, c.write_section-at.ensures.end))
    (c.pack_section-at.ensures.writes ∙ (λ j. written_at c.write_section-at.result (section (packed (values_w j) (values_are j))) c.write_section-at.new.out))
    (omega (arith, c.pack_section-at.ensures.end, c.values_length.ensures.value, values_long))
    (c.pack_section.ensures.writes ∙ (λ j. written_at c.pack_section-at.result (section (packed (signals_w j) (signals_are j))) c.pack_section-at.new.out))
    (omega (arith, values_long, signals_long, c.answer_length.ensures, c.if-out-answer_length.false))
    ∙ ap (encoded k) c.self.view_is

pub returns-clause-reads_back : goal.returns-clause-reads_back
returns-clause-reads_back g c =
    let k = g.P.Profile.NUMBERS in
    let degree = ap (λ (s : Numbers). s.n) c.NUMBERS-n.ensures in
    let values_fit : AllFit k.w c.self.inside.values.now = search rules in
    let signals_fit : AllFit k.signal_width c.self.inside.signals.now = search rules in
    ap (reading k Answer) (returns-clause-writes g c)
    ∙ subst (λ m. reading k Answer (encoded k m) ≡ Ok m) c.self.view_is
    (reads_back k g.met.P.Profile.lawful.in_range (answer c.self.inside.round c.self.inside.values.now c.self.inside.signals.now)
    (c.head.ensures.round, record { count = c.if-values-n.false ∙ degree; fit = values_fit }, record { count = c.if-signals-n.false ∙ degree; fit = signals_fit }))

pub returns-in_err-values-clause-means : goal.returns-in_err-values-clause-means
returns-in_err-values-clause-means g c =
    written_means g.P.Profile.NUMBERS c.args.self (length c.args.out.now) c.from_residual.result (search rules)

pub returns-in_err-signals-clause-means : goal.returns-in_err-signals-clause-means
returns-in_err-signals-clause-means g c =
    written_means g.P.Profile.NUMBERS c.args.self (length c.args.out.now) c.from_residual-in_err-signals.result (search rules)
