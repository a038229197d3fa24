-- The residue of an integer near 0 .. q - 1, and what the signed form is.
use Rattle.std.proofs.Common.{◌≡◌, ℕ, ◌+◌, ◌-◌, ◌/◌, ◌%◌, ◌<◌, ◌≤◌, leb, ℤ, pos, negsuc, ◌-ℤ◌, ap, ◌∙◌, mod-lt, mod-eq_of_lt, arith}
use native.Mathlib.Nat.{add-mod_right}
use Rattle.std.proofs.lemmas.Int.{ints}
use Rattle.std.proofs.lemmas.Bool.{cond-true, cond-false, le-leb, lt-leb}
use Rattle.ring.specs.Residues.{residue, signed}

pub residue_below : (q : ℕ) (z : ℤ) → 0 < q → residue q z < q
residue_below q (pos n) h = mod-lt n h
residue_below q (negsuc n) h = omega arith

-- an integer of -q .. -1 has the residue q above it
pub residue_negsuc : (q k : ℕ) → k < q → residue q (negsuc k) ≡ q - 1 - k
residue_negsuc q k h = ap (λ n. q - 1 - n) (mod-eq_of_lt h)

pub residue_pos : (q x : ℕ) → x < q → residue q (pos x) ≡ x
residue_pos q x h = mod-eq_of_lt h

pub residue_over : (q x : ℕ) → x < q → residue q (pos (x + q)) ≡ x
residue_over q x h = add-mod_right x q ∙ mod-eq_of_lt h

module _ (q x : ℕ) (odd : q % 2 ≡ 1) (h : x < q) where
  pub signed_low : x ≤ (q - 1) / 2 → signed q x ≡ pos x
  signed_low low = cond-true (leb x ((q - 1) / 2)) (pos x) (pos x -ℤ pos q) (le-leb x ((q - 1) / 2) low)

  pub signed_high : (q - 1) / 2 < x → signed q x ≡ negsuc (q - 1 - x)
  signed_high high =
      cond-false (leb x ((q - 1) / 2)) (pos x) (pos x -ℤ pos q) (lt-leb x ((q - 1) / 2) high) ∙ omega (arith, ints)
