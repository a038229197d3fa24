use Rattle.std.proofs.Common.{length}
use Rattle.keccak.specs.Sponge.{next_state}
use Rattle.keccak.proofs.Squeezing.{Squeezed}
use Rattle.keccak.proofs.output.shake128.Given as goal

abbrev pub invariant-loop-at : goal.invariant-loop-at
invariant-loop-at l = Squeezed (next_state l.initial.sponge) (next_state l.sponge) (length l.initial.output) l.output l.at
