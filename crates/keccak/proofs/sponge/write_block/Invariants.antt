use Rattle.std.proofs.Common.{◌*◌}
use Rattle.keccak.specs.Sponge.{output_byte}
use Rattle.keccak.proofs.Writes.{Written}
use Rattle.keccak.proofs.sponge.write_block.Given as goal

abbrev pub invariant-loop-i : goal.invariant-loop-i
invariant-loop-i l = Written (output_byte l.lanes) 168 l.block (8 * l.i)
