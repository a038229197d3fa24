-- Stretches of a message.
use Rattle.std.specs.Prelude.{ℕ, ◌+◌, List, ◌++◌, length, take, drop}

-- so many bytes, from an offset on
abbrev pub stretch : (at many : ℕ) → List ℕ → List ℕ
stretch at many message = take many (drop at message)

-- what a buffer holds after bytes are written at an offset: what lies outside stays
abbrev pub written_at : (at : ℕ) → List ℕ → List ℕ → List ℕ
written_at at bytes buffer = take at buffer ++ bytes ++ drop (at + length bytes) buffer
