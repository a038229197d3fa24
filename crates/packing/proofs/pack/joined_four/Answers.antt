use Rattle.std.proofs.Common.{arith, ◌∙◌}
use Rattle.std.proofs.lemmas.List.{take_all}
use Rattle.packing.specs.Packing.{AllFit, number}
use Rattle.packing.proofs.Joining.{joined_more, joined_fits}
use Rattle.packing.proofs.pack.joined_four.Goals as goal

pub overflow_add-sum : goal.overflow_add-sum
overflow_add-sum c =
    let bits = c.bits-bits.result in
    let fit : AllFit bits c.args.digits.now = rw c.bits-bits.ensures.value c.requires.fit in
    record { fits = joined_fits bits c.args.digits.now c.loop-i.i c.loop-i.sum _ c.bits-bits.ensures.is_width.at_most c.requires.few fit c.loop-i-test.true c.loop-i.invariant c.from.ensures }

pub loop-i-preserved : goal.loop-i-preserved
loop-i-preserved c =
    let bits = c.bits-bits.result in
    let fit : AllFit bits c.args.digits.now = rw c.bits-bits.ensures.value c.requires.fit in
    joined_more bits c.args.digits.now c.loop-i.i c.loop-i.sum _ c.bits-bits.ensures.is_width.at_most c.requires.few fit c.loop-i-test.true c.loop-i.invariant c.from.ensures

pub returns : goal.returns
returns c =
    c.loop-i.invariant ∙ (λ j. number (c.bits-bits.ensures.value j) (take_all c.loop-i.i c.args.digits.now (omega (arith, c.loop-i-test.false)) j))
