-- What stays while a byte source is read.
use Rattle.std.proofs.Common.{◌∙◌}
use Rattle.byte_source.specs.declared.source.ByteSource.{Ghosts}
use Rattle.byte_source.specs.Reading.{KeepsStream}

pub still_keeps : {S : Type 0} (ghosts : Ghosts S) (old now new : S) → KeepsStream ghosts old now → KeepsStream ghosts now new → KeepsStream ghosts old new
still_keeps ghosts old now new before after = record {
  same_expansion = after.same_expansion ∙ before.same_expansion;
  same_stream = after.same_stream ∙ before.same_stream;
}
