-- Words of scratch.
use Rattle.std.specs.Prelude.{ℕ, List, length, replicate}

-- as many zero words as there are words
abbrev pub zeroed : List ℕ → List ℕ
zeroed words = replicate (length words) 0
