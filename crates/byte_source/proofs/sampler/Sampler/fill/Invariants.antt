use Rattle.std.proofs.Common.{◌≡◌, ◌++◌, take}
use Rattle.byte_source.specs.Derivation.{kept}
use Rattle.byte_source.specs.Reading.{ahead, KeepsStream}
use Rattle.byte_source.proofs.sampler.Sampler.fill.Given as goal

-- what is kept so far, with what is still to come, is all that there is to keep
abbrev pub invariant-loop-count : goal.invariant-loop-count
invariant-loop-count g l =
    let s = g.S.ByteSource in
    record {
      keeps : KeepsStream s l.initial.source l.source;
      so_far : take l.count l.numbers ++ kept l.self.q (ahead s l.source) ≡ kept l.self.q (ahead s l.initial.source);
    }
