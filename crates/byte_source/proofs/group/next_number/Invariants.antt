use Rattle.std.proofs.Common.{◌*◌, ◌^◌, ◌<◌}
use Rattle.byte_source.specs.Derivation.{WholeGroup}
use Rattle.byte_source.specs.Reading.{ahead, KeepsStream}
use Rattle.byte_source.proofs.group.next_number.Given as goal

-- the first i bytes are read
abbrev pub invariant-loop-i : goal.invariant-loop-i
invariant-loop-i g l =
    let s = g.S.ByteSource in
    record {
      keeps : KeepsStream s l.initial.source l.source;
      group : WholeGroup l.i (ahead s l.initial.source) l.number (ahead s l.source);
      low : l.number < 2 ^ (8 * l.i);
    }
