-- Which numbers give a modulus.
use Rattle.std.specs.Prelude.{◌≡◌, ℕ, Some, None, Option}
use Rattle.ring.specs.Residues.{IsModulus}
use Rattle.ring.specs.declared.modulus.Modulus.{Modulus}

abbrev pub is_modulus_from : ℕ → Option Modulus → Type 0
is_modulus_from q (Some modulus) = (modulus ≡ q) × IsModulus q
is_modulus_from q None = IsModulus q → ⊥
