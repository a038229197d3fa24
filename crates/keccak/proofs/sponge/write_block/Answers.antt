use Rattle.std.proofs.Common.{◌∙◌, arith}
use Rattle.keccak.proofs.Blocks.{bytes_more}
use Rattle.keccak.proofs.sponge.write_block.Goals as goal

pub loop-i-preserved : goal.loop-i-preserved
loop-i-preserved c =
    bytes_more c.args.lanes.now c.loop-i.block c.copy_from_slice.new.self c.loop-i.i (omega arith) (c.copy_from_slice.ensures.after ∙ c.to_le_bytes.ensures)
    c.loop-i.invariant
