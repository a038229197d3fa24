use Rattle.std.proofs.Common.{arith}
use Rattle.keccak.proofs.Blocks.{added_more}
use Rattle.keccak.proofs.sponge.add_block.Goals as goal

pub loop-i-preserved : goal.loop-i-preserved
loop-i-preserved c =
    added_more c.args.lanes.now c.args.block.now c.loop-i.lanes _ c.loop-i.i c.from_le_bytes.result (omega arith) c.as_chunks.ensures.front (omega arith)
    c.from_le_bytes.ensures c.loop-i.invariant
