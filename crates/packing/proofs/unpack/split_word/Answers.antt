use Rattle.std.proofs.Common.{◌≡◌, ◌∙◌, length, sym, refl, arith}
use Rattle.std.proofs.lemmas.List.{take_all}
use Rattle.packing.specs.Packing.{digits}
use Rattle.packing.proofs.Splitting.{none_split, low_bits, split_more, rest_more}
use Rattle.packing.proofs.unpack.split_word.Goals as goal

pub loop-number-init : goal.loop-number-init
loop-number-init c = (refl, none_split c.bits-bits.result c.args.word)

pub loop-number-preserved : goal.loop-number-preserved
loop-number-preserved c =
    let w = c.bits-bits.result in
    let x = c.args.word in (
      split_more w x c.loop-number.numbers c.loop-number.number-index c.loop-number.rest _ (omega arith) c.loop-number.invariant.1 (low_bits w c.loop-number.rest c.bits-bits.ensures.is_width.at_most) c.loop-number.invariant.0,
      rest_more w x c.loop-number.number-index c.loop-number.rest c.loop-number.invariant.1,
    )

pub returns : goal.returns
returns c =
    let all : c.loop-number.number-index ≡ length c.args.numbers.now = omega (arith, c.loop-number.auto.number-index-end) in
    sym (take_all c.loop-number.number-index c.loop-number.numbers (omega (arith, c.loop-number.auto.numbers)))
    ∙ c.loop-number.invariant.0
    ∙ (λ j. digits (c.bits-bits.ensures.value j) (all j) c.args.word)
