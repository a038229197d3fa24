-- What a byte source gives.
use Rattle.std.specs.Prelude.{◌≡◌, ℕ, ◌+◌, ◌<◌, ◌≤◌, List, length, Some, None, Option, slice_index}

-- nothing is given where the list is used up
pub record UsedUp (bytes : List ℕ) (position end : ℕ) : Type 0 where
  pub spent : length bytes ≤ position
  pub stays : end ≡ position

-- else the byte at the position, which moves on by one
pub record Byte (bytes : List ℕ) (position b end : ℕ) : Type 0 where
  pub inside : position < length bytes
  pub value : b ≡ slice_index bytes position
  pub moves : end ≡ position + 1

abbrev pub Gives : List ℕ → ℕ → Option ℕ → ℕ → Type 0
Gives bytes position None end = UsedUp bytes position end
Gives bytes position (Some b) end = Byte bytes position b end
