-- The ring of a multiplier: the polynomials over the residues modulo q, modulo x^n + 1.
use Rattle.std.specs.Prelude.{◌≡◌, ℕ, ◌≤◌, count_ones}
use Rattle.ring.specs.Residues.{IsModulus}
use Rattle.ring.specs.declared.degree.TheConstants.{LARGEST_DEGREE}

-- a degree that is a power of two from 1 to 1024, since one bit of it is set, and a modulus
pub record Ring : Type 0 where
  pub degree : ℕ
  pub modulus : ℕ
  pub power : count_ones degree ≡ 1
  pub most : degree ≤ LARGEST_DEGREE
  pub is_modulus : IsModulus modulus
