-- A list that is ready to be packed.
use Rattle.std.specs.Prelude.{ℕ, List}
use Rattle.packing.specs.Packing.{AllFit}

-- numbers, and the width in bits that each of them fits
pub record FittingNumbers : Type 0 where
  pub width : ℕ
  pub numbers : List ℕ
  pub fit : AllFit width numbers
