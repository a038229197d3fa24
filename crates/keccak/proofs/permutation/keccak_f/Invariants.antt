use Rattle.std.proofs.Common.{◌≡◌}
use Rattle.keccak.specs.Permutation.{rounds}
use Rattle.keccak.proofs.permutation.keccak_f.Given as goal

abbrev pub invariant-loop-constant : goal.invariant-loop-constant
invariant-loop-constant l = l.state ≡ rounds l.constant-index l.initial.state
