-- Where a residue lies that is at a known distance from another.
use Rattle.std.proofs.Common.{⊎_elim, sym, ap, ◌∙◌, arith}
use Rattle.std.specs.Prelude.{◌≡◌, ℕ, suc, ◌+◌, ◌-◌, ◌<◌, ℤ, pos, negsuc, ◌+ℤ◌, unsigned_abs}
use Rattle.std.proofs.lemmas.Int.{ints}
use Rattle.std.proofs.lemmas.Bool.{cases_lt}
use Rattle.ring.specs.Residues.{residue}
use Rattle.ring.proofs.Residues.{residue_pos, residue_over, residue_negsuc}

-- y is m above x or m below it, modulo q
pub data Near (q x m y : ℕ) : Type 0 where
  above : y ≡ x + m → Near q x m y
  below : y + m ≡ x → Near q x m y
  above_wrapped : y + q ≡ x + m → Near q x m y
  below_wrapped : y + m ≡ x + q → Near q x m y

-- the residue at the distance d from x, where d is shorter than the circle
pub residue_near : (q x : ℕ) (d : ℤ) → x < q → unsigned_abs d < q
    → Near q x (unsigned_abs d) (residue q (pos x +ℤ d))
residue_near q x (pos m) h k =
    ⊎_elim
    (λ stays. above (residue_pos q (x + m) stays))
    (λ wraps.
    let from : x + m ≡ x + m - q + q = omega arith in
    let at = ap (λ n. residue q (pos n)) from ∙ residue_over q (x + m - q) (omega arith) in
    above_wrapped (ap (λ y. y + q) at ∙ sym from))
    (cases_lt (x + m) q)
residue_near q x (negsuc n) h k =
    ⊎_elim
    (λ wraps.
    let from : pos x +ℤ negsuc n ≡ negsuc (n - x) = omega (arith, ints) in
    let at = ap (residue q) from ∙ residue_negsuc q (n - x) (omega arith) in
    below_wrapped (ap (λ y. y + suc n) at ∙ omega arith))
    (λ stays.
    let from : pos x +ℤ negsuc n ≡ pos (x - suc n) = omega (arith, ints) in
    let at = ap (residue q) from ∙ residue_pos q (x - suc n) (omega arith) in
    below (ap (λ y. y + suc n) at ∙ omega arith))
    (cases_lt x (suc n))

-- at no distance there is only x
pub near_itself : (q x m y : ℕ) → x < q → y < q → m ≡ 0 → Near q x m y → y ≡ x
near_itself q x m y h k z (above e) = omega arith
near_itself q x m y h k z (below e) = omega arith
near_itself q x m y h k z (above_wrapped e) = omega arith
near_itself q x m y h k z (below_wrapped e) = omega arith
