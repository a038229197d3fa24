use Rattle.std.proofs.Common.{arith}
use Rattle.keccak.proofs.Fills.{filled_all}
use Rattle.keccak.proofs.permutation.by_lane.Goals as goal

pub returns : goal.returns
returns g c = λ f is. filled_all _ f _ _ (omega arith) c.loop-y.invariant is
