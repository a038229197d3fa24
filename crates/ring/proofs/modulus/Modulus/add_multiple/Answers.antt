use Rattle.std.proofs.Common.{ℕ, suc, ◌*◌, ◌^◌, ◌<◌, ◌≤◌, ℤ, pos, negsuc, ◌+ℤ◌, ◌*ℤ◌, neg_ℤ, nat_abs, w32, w64, arith}
use Rattle.std.proofs.lemmas.Int.{ints, to_z-of_z, fits_signed_from_abs}
use Rattle.std.proofs.lemmas.Nat.{mul-le}
use Rattle.std.specs.Prelude.{FitsSigned}
use Rattle.ring.proofs.modulus.Modulus.add_multiple.Goals as goal

less : (x m : ℕ) → x < 2 ^ 63 → m < 2 ^ 63 → nat_abs (pos x +ℤ neg_ℤ (pos m)) < 2 ^ 63
less x m hx hm = omega (arith, ints)

less_negated : (m : ℕ) → m < 2 ^ 63 → nat_abs (neg_ℤ (pos m)) < 2 ^ 63
less_negated m hm = omega (arith, ints)

-- neither the multiple nor the sum overflows 64 bits
multiple_fits : (step : ℕ) (e : ℤ) → step < 2 ^ 32 → FitsSigned w32 e → FitsSigned w64 (pos step *ℤ e)
multiple_fits step (pos n) hs fits =
    let few : step * n ≤ 4294967295 * 2147483647 = mul-le step n 4294967295 2147483647 (omega arith) (omega (arith, ints)) in
    fits_signed_from_abs w64 _ (omega arith)
multiple_fits step (negsuc n) hs fits =
    let few : step * suc n ≤ 4294967295 * 2147483648 = mul-le step (suc n) 4294967295 2147483648 (omega arith) (omega (arith, ints)) in
    fits_signed_from_abs w64 _ (less_negated (step * suc n) (omega arith))

sum_fits : (x step : ℕ) (e : ℤ) → x < 2 ^ 32 → step < 2 ^ 32 → FitsSigned w32 e → FitsSigned w64 (pos x +ℤ pos step *ℤ e)
sum_fits x step (pos n) hx hs fits =
    let few : step * n ≤ 4294967295 * 2147483647 = mul-le step n 4294967295 2147483647 (omega arith) (omega (arith, ints)) in
    fits_signed_from_abs w64 _ (omega arith)
sum_fits x step (negsuc n) hx hs fits =
    let few : step * suc n ≤ 4294967295 * 2147483648 = mul-le step (suc n) 4294967295 2147483648 (omega arith) (omega (arith, ints)) in
    fits_signed_from_abs w64 _ (less x (step * suc n) (omega arith) (omega arith))

pub returns-clause-value : goal.returns-clause-value
returns-clause-value c =
    let step = multiple_fits c.args.step c.args.e (omega arith) c.ranges.e in
    let sum = sum_fits c.args.x c.args.step c.args.e (omega arith) (omega arith) c.ranges.e in
    let e = c.ranges.e in
    grind (arith, to_z-of_z, ints)
