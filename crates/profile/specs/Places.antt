-- What a place with memory of its own holds.
use Rattle.std.specs.Prelude.{List, ℤ, Some, None, vec_items, Option, if◌then◌else◌}
use Rattle.profile.specs.declared.bounds.SecretBounds.{Ghosts}
use Rattle.profile.specs.declared.place.Place.{Place}

abbrev pub place_held : {P : Type 0} {g : Ghosts P} → Place P g → Option (List ℤ)
place_held s = if s.filled then Some (vec_items s.memory.words) else None

abbrev pub place_memory : {P : Type 0} {g : Ghosts P} → Place P g → List ℤ
place_memory s = vec_items s.memory.words
