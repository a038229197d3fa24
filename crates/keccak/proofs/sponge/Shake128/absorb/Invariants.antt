use Rattle.std.proofs.Common.{◌≡◌, take}
use Rattle.keccak.proofs.Absorbing.{after_blocks}
use Rattle.keccak.proofs.sponge.Shake128.absorb.Given as goal

abbrev pub invariant-loop-block : goal.invariant-loop-block
invariant-loop-block l = l.lanes ≡ after_blocks (take l.block-index l.blocks)
