-- What a byte source is still to give, and what stays while it is read.
use Rattle.std.specs.Prelude.{◌≡◌, ℕ, List, drop}
use Rattle.byte_source.specs.declared.source.ByteSource.{Ghosts}

-- the bytes of the stream from the position on
abbrev pub ahead : {S : Type 0} → Ghosts S → S → List ℕ
ahead ghosts source = drop (ghosts.position source) (ghosts.stream source)

-- what a source expands seeds to, and the stream that it gives, are what they were
pub record KeepsStream {S : Type 0} (ghosts : Ghosts S) (old new : S) : Type 0 where
  pub same_expansion : ghosts.expansion new ≡ ghosts.expansion old
  pub same_stream : ghosts.stream new ≡ ghosts.stream old
