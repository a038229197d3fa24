use Rattle.std.proofs.Common.{◌+◌, arith}
use Rattle.keccak.proofs.Squeezing.{squeezed_more, squeezed_all}
use Rattle.keccak.proofs.output.shake128.Goals as goal

pub loop-at-preserved : goal.loop-at-preserved
loop-at-preserved c =
    squeezed_more _ _ _ c.loop-at.output _ c.copy_from_slice.new.self _ c.loop-at.at c.min-size.result (omega arith) c.min-size.ensures
    c.squeeze.ensures.output c.copy_from_slice.ensures.after c.squeeze.ensures.state c.loop-at.invariant

pub returns : goal.returns
returns c = squeezed_all c.args.message.now _ _ c.loop-at.output _ c.loop-at.at c.absorb-sponge.ensures (omega arith) c.loop-at.invariant

-- where the block that was just written is the last
pub returns-2 : goal.returns-2
returns-2 c =
    squeezed_all c.args.message.now _ _ _ _ (c.loop-at.at + 168) c.absorb-sponge.ensures (omega arith)
    (squeezed_more _ _ _ c.loop-at.output _ c.copy_from_slice.new.self _ c.loop-at.at c.min-size.result (omega arith) c.min-size.ensures
    c.squeeze.ensures.output c.copy_from_slice.ensures.after c.squeeze.ensures.state c.loop-at.invariant)
