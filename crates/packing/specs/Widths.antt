-- Which numbers of bits give a width.
use Rattle.std.specs.Prelude.{◌≡◌, ℕ, Some, None, Option}
use Rattle.packing.specs.Lengths.{IsWidth}
use Rattle.packing.specs.declared.width.Width.{Width}

abbrev pub is_width_from : ℕ → Option Width → Type 0
is_width_from bits (Some width) = (width ≡ bits) × IsWidth bits
is_width_from bits None = IsWidth bits → ⊥
