use Rattle.std.proofs.Common.{arith}
use Rattle.multiplier.proofs.ReversedDots.{front_fits, rest_fits, lifted_fits, enough}
use Rattle.multiplier.proofs.schoolbook.coefficient.Goals as goal

pub reversed_dot-plus-requires : goal.reversed_dot-plus-requires
reversed_dot-plus-requires c = front_fits c.args.factors.modulus _ _ c.args.factors.fit c.args.k c.requires

pub reversed_dot-minus-requires : goal.reversed_dot-minus-requires
reversed_dot-minus-requires c = rest_fits c.args.factors.modulus _ _ c.args.factors.fit c.args.k c.requires

pub overflow_add-result : goal.overflow_add-result
overflow_add-result c = rw c.from-q.ensures (omega (arith, lifted_fits c.args.factors.modulus _ _ c.args.factors.fit c.args.k c.requires _ _ c.reversed_dot-plus.ensures c.reversed_dot-minus.ensures))

pub overflow_sub-result : goal.overflow_sub-result
overflow_sub-result c = rw c.from-q.ensures (enough c.args.factors.modulus _ _ c.args.factors.fit c.args.k c.requires _ _ c.reversed_dot-plus.ensures c.reversed_dot-minus.ensures)
