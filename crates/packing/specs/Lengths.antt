-- Widths, and how long a packed list is.
use Rattle.std.specs.Prelude.{ℕ, ◌+◌, ◌*◌, ◌/◌, ◌≤◌}

-- the numbers of bits that a width may be
pub record IsWidth (bits : ℕ) : Type 0 where
  pub at_least : 1 ≤ bits
  pub at_most : bits ≤ 16

-- in bytes: so many numbers of so many bits, one after another, and zero bits up to a whole byte
abbrev pub packed_length : (many width : ℕ) → ℕ
packed_length many width = (many * width + 7) / 8
