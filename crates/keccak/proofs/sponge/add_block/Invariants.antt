use Rattle.keccak.proofs.Blocks.{AddedTo}
use Rattle.keccak.proofs.sponge.add_block.Given as goal

abbrev pub invariant-loop-i : goal.invariant-loop-i
invariant-loop-i l = AddedTo l.initial.lanes l.block l.lanes l.i
