-- What is said of a seed, if it has the length of one.
use Rattle.std.specs.Prelude.{ℕ, if◌then◌else◌, ◌==◌, List, length}
use Rattle.profile.specs.declared.seed.TheConstants.{SEED_LENGTH}

-- what is said of a seed, or else `other`
abbrev pub if_seed : {X : Type 0} → List ℕ → X → X → X
if_seed seed says other = if length seed == SEED_LENGTH then says else other
