use Rattle.std.proofs.Common.{◌≡◌, length}
use Rattle.byte_source.specs.Derivation.{kept}
use Rattle.byte_source.specs.Reading.{ahead, KeepsStream}
use Rattle.byte_source.proofs.sampler.Sampler.next.Given as goal

-- the groups so far gave nothing that is kept
abbrev pub invariant-loop-number : goal.invariant-loop-number
invariant-loop-number g l =
    let s = g.S.ByteSource in
    record {
      keeps : KeepsStream s l.initial.source l.source;
      same_kept : kept l.self.q (ahead s l.source) ≡ kept l.self.q (ahead s l.initial.source);
    }

abbrev pub decreases-loop-number : goal.decreases-loop-number
decreases-loop-number g l = length (ahead g.S.ByteSource l.source)
