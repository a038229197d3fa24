-- Residues modulo an odd q, and their signed forms.
use Rattle.std.specs.Prelude.{◌≡◌, ℕ, ◌-◌, ◌/◌, ◌%◌, ◌^◌, ◌<◌, ◌≤◌, nat_le, nat_lt, if◌then◌else◌}
use Rattle.std.specs.Prelude.{ℤ, pos, ◌+ℤ◌, ◌-ℤ◌, ◌*ℤ◌, unsigned_abs, Ok, Err, Result}
use Rattle.std.specs.Int.{int_rem_euclid}
use Rattle.ring.specs.Faults.{checked}
use Rattle.ring.specs.declared.fault.Fault.{Fault}
use Rattle.ring.specs.declared.fault.Fault.TheVariants.{WrongLength, OutOfRange, SumTooLarge}
use Rattle.ring.specs.declared.fault.Fault.TheVariants.{CoinOutOfRange, SourceSpent}

-- the residue of an integer modulo q, in 0 .. q - 1
abbrev pub residue : ℕ → ℤ → ℕ
residue q z = unsigned_abs (int_rem_euclid z (pos q))

-- what it is to be that residue: below q, and a multiple of q away
pub record IsResidue (q : ℕ) (z : ℤ) (x : ℕ) : Type 0 where
  pub below : x < q
  pub congruent : (k : ℤ) × (z ≡ pos x +ℤ k *ℤ pos q)

-- every integer has one residue and no other
pub record ResidueLaws : Type 0 where
  pub is_residue : (q : ℕ) (z : ℤ) → 0 < q → IsResidue q z (residue q z)
  pub only_residue : (q : ℕ) (z : ℤ) (x : ℕ) → IsResidue q z x → x ≡ residue q z

-- the signed form of a residue, in -(q-1)/2 .. (q-1)/2
abbrev pub signed : ℕ → ℕ → ℤ
signed q x = if nat_le x ((q - 1) / 2) then pos x else (pos x -ℤ pos q)

-- the numbers that a modulus may be
pub record IsModulus (q : ℕ) : Type 0 where
  pub odd : q % 2 ≡ 1
  pub at_least : 3 ≤ q
  pub below : q < 2 ^ 23

abbrev pub signed_outcome : ℕ → ℕ → Result ℤ Fault
signed_outcome q x = checked (nat_lt x q) (OutOfRange 0) (Ok (signed q x))

-- what each outcome says: that it has x for its residue, and no more than (q-1)/2 for its size, or that x is
-- no residue
abbrev pub IsSignedForm : ℕ → ℕ → Result ℤ Fault → Type 0
IsSignedForm q x (Ok s) = (x < q) × (residue q s ≡ x) × (unsigned_abs s ≤ (q - 1) / 2)
IsSignedForm q x (Err (OutOfRange place)) = (q ≤ x) × (place ≡ 0)
IsSignedForm q x (Err (WrongLength place)) = ⊥
IsSignedForm q x (Err (SumTooLarge place)) = ⊥
IsSignedForm q x (Err (CoinOutOfRange place)) = ⊥
IsSignedForm q x (Err (SourceSpent place)) = ⊥
