-- The places of a wrong length, by their numbers.
use Rattle.std.specs.Prelude.{◌≡◌}
use Rattle.ring.specs.declared.place.TheConstants.{LEFT_LIST, RIGHT_LIST, ERRORS, COINS, COEFFICIENTS}
use Rattle.ring.specs.declared.place.TheConstants.{VALUES, SIGNALS, BYTES, SCRATCH, OUTPUT}

-- 1 the first list, 2 the second, 3 scratch, 4 the output
pub record PlacesAreNumbered : Type 0 where
  pub left_list : LEFT_LIST ≡ 1
  pub errors : ERRORS ≡ 1
  pub coefficients : COEFFICIENTS ≡ 1
  pub values : VALUES ≡ 1
  pub bytes : BYTES ≡ 1
  pub right_list : RIGHT_LIST ≡ 2
  pub coins : COINS ≡ 2
  pub signals : SIGNALS ≡ 2
  pub scratch : SCRATCH ≡ 3
  pub output : OUTPUT ≡ 4
