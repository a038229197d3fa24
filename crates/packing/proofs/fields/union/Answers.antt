use Rattle.std.proofs.Common.{arith}
use Rattle.packing.proofs.Fitting.{none_within, one_more_within}
use Rattle.packing.proofs.fields.union.Goals as goal

pub loop-x-init : goal.loop-x-init
loop-x-init c = none_within _ _

pub loop-x-preserved : goal.loop-x-preserved
loop-x-preserved c = one_more_within c.args.numbers.now c.loop-x.x-index c.loop-x.all (omega arith) c.loop-x.invariant

pub returns : goal.returns
returns c = λ k d inside. c.loop-x.invariant k d (omega arith) (omega (arith, c.loop-x-test.false))
