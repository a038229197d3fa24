use Rattle.std.proofs.Common.{◌≡◌, ◌<◌, ◌∷◌, arith}
use Rattle.byte_source.specs.Reading.{ahead}
use Rattle.byte_source.proofs.Groups.{byte_ahead, group_short, group_more, or_byte, or_byte_below}
use Rattle.byte_source.proofs.Reading.{still_keeps}
use Rattle.byte_source.proofs.group.next_number.Goals as goal

pub returns-in_err-byte-clause-gives : goal.returns-in_err-byte-clause-gives
returns-in_err-byte-clause-gives g c =
    rw c.from_residual.ensures (group_short c.loop-i.i _ _ _ _ _ _ c.loop-i.invariant.group c.in_err-byte.ensures.gives (omega arith))

pub loop-i-preserved : goal.loop-i-preserved
loop-i-preserved g c =
    let s = g.S.ByteSource in
    let inv = c.loop-i.invariant in
    let f = c.in_ok-byte.ensures in
    let b = c.in_ok-byte.byte in
    let first : ahead s c.loop-i.source ≡ b ∷ ahead s c.next.new.self = byte_ahead _ _ _ _ _ f.same_stream f.gives in
    let same : c.from.result ≡ b = c.from.ensures in
    let byte : b < 256 = omega arith in
    let few : c.loop-i.i < 4 = omega arith in
    record {
      keeps = still_keeps s _ _ _ inv.keeps (record { same_expansion = f.same_expansion; same_stream = f.same_stream });
      group = rw (same, or_byte c.loop-i.number b c.loop-i.i inv.low byte few) (group_more _ _ _ _ inv.group b _ first);
      low = rw same (or_byte_below c.loop-i.number b c.loop-i.i inv.low byte few);
    }
