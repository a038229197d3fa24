-- The degrees of a ring are the numbers that pass its tests.
use Rattle.std.proofs.Common.{◌≡◌, ℕ, ◌^◌, ◌≤◌, eqb, true, refl, ap, ◌∙◌, arith, pow_pos, pow_mono}
use Rattle.std.specs.Int.Count.{ones}
use Rattle.std.proofs.lemmas.Nat.{ones_cat}
use Rattle.ring.specs.declared.degree.TheConstants.{LARGEST_DEGREE}
use Rattle.multiplier.specs.Multipliers.{IsDegree}
use Rattle.multiplier.specs.LawProofs.{degree_from_ones}

pub ones_of_degree : (n : ℕ) → IsDegree n → ones n ≡ 1
unfolding ones
ones_of_degree n (m, most, is) = ap ones (is ∙ omega arith) ∙ ones_cat m 1 0 (pow_pos m)

pub degree_most : (n : ℕ) → IsDegree n → n ≤ LARGEST_DEGREE
degree_most n (m, most, is) = let bound : 2 ^ m ≤ 2 ^ 10 = pow_mono most in omega arith

-- a degree passes both tests
pub degree_passes : (n : ℕ) → IsDegree n → (eqb (ones n) 1 ≡ true) × (n ≤ LARGEST_DEGREE)
degree_passes n is = (rw (ones_of_degree n is) refl, degree_most n is)

pub ruleset degrees = (degree_from_ones, degree_passes)
