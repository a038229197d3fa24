use Rattle.std.proofs.Common.{◌+◌, ◌*◌}
use Rattle.keccak.proofs.Fills.{Filled}
use Rattle.keccak.proofs.permutation.by_lane.Given as goal

abbrev pub invariant-loop-x : goal.invariant-loop-x
invariant-loop-x g l = Filled (goal.F-post g l.lane) l.lanes (l.x + 5 * l.y)

abbrev pub invariant-loop-y : goal.invariant-loop-y
invariant-loop-y g l = Filled (goal.F-post g l.lane) l.lanes (5 * l.y)
