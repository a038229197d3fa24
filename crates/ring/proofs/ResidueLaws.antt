-- Every integer has one residue modulo q and no other.
use Rattle.std.proofs.Common.{◌≡◌, ℕ, suc, ◌+◌, ◌-◌, ◌*◌, ◌/◌, ◌%◌, ◌<◌, ℤ, pos, negsuc, ◌+ℤ◌, ◌*ℤ◌, neg_ℤ, nat_abs, ap, sym, refl, ◌∙◌, mod-lt, mod-eq_of_lt, arith}
use Rattle.std.proofs.Math.Nat.{suc-mul, add-mul-mod_self_right}
use Rattle.std.proofs.lemmas.Int.{ints, int_rem_euclid_is}
use Rattle.std.proofs.lemmas.Nat.{div-add-mod'}
use Rattle.std.specs.Int.{int_rem_euclid}
use Rattle.ring.specs.Residues.{ResidueLaws, residue}
use Rattle.ring.proofs.Residues.{residue_below}

negative : (a b n : ℕ) → b ≡ a + suc n → negsuc n ≡ pos a +ℤ neg_ℤ (pos b)
negative a b n e = omega (arith, ints)

lifted : (a b : ℕ) → (pos a +ℤ neg_ℤ (pos b)) +ℤ pos b ≡ pos a
lifted a b = omega (arith, ints)

-- how many times q lies between an integer and its residue
abbrev times : (q : ℕ) (z : ℤ) → ℤ
times q (pos n) = pos (n / q)
times q (negsuc n) = negsuc (n / q)

congruent : (q : ℕ) (z : ℤ) → 0 < q → z ≡ pos (residue q z) +ℤ times q z *ℤ pos q
congruent q (pos n) h = let parts : n / q * q + n % q ≡ n = div-add-mod' n q in ap pos (omega arith)
congruent q (negsuc n) h =
    let parts : n / q * q + n % q ≡ n = div-add-mod' n q in
    let rest : n % q < q = mod-lt n h in
    let more : suc (n / q) * q ≡ n / q * q + q = suc-mul (n / q) q in
    negative (q - 1 - n % q) (suc (n / q) * q) n (omega arith)

only : (q : ℕ) (x : ℕ) (k : ℤ) → x < q → x ≡ residue q (pos x +ℤ k *ℤ pos q)
only q x (pos k) h = sym (mod-eq_of_lt h) ∙ sym (add-mul-mod_self_right x k q)
only q x (negsuc k) h =
    let is : int_rem_euclid (pos x +ℤ negsuc k *ℤ pos q) (pos q) ≡ pos (x % q) = int_rem_euclid_is _ (pos q) q (suc k) x (omega arith) refl (lifted x (suc k * q)) in
    sym (mod-eq_of_lt h) ∙ sym (ap nat_abs is)

pub residue_laws : ResidueLaws
residue_laws = record {
  is_residue = λ q z h. record { below = residue_below q z h; congruent = (times q z, congruent q z h) };
  only_residue = λ q z x is. only q x is.congruent.0 is.below ∙ ap (residue q) (sym is.congruent.1);
}
