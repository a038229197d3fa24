-- Bounds that generic code has from the laws of a profile.
use Rattle.std.proofs.Common.{◌+◌, ◌*◌, ◌^◌, ◌<◌, ◌≤◌, ⊎_elim, arith, pow_mono}
use Rattle.std.proofs.lemmas.Nat.{mul-le}
use Rattle.profile.specs.Laws.{Functions, InRange, Lawful}
use Rattle.profile.specs.declared.numbers.Numbers.{Numbers}

pub n_most : (k : Numbers) → InRange k → k.n ≤ 1024
n_most k range =
    let most : 2 ^ range.n_power.0 ≤ 2 ^ 10 = pow_mono range.n_power.2 in
    omega (arith, range.n_power.3)

-- the tolerance is above 1, and below q
pub q_least : (k : Numbers) (f : Functions) → Lawful k f → 1 < k.q
q_least k f law =
    let range = law.in_range in
    let step : 1 ≤ k.step = ⊎_elim (λ e. omega (arith, e)) (λ e. omega (arith, e)) range.step_is in
    let error : 1 * 1 ≤ k.step * k.e = mul-le 1 1 k.step k.e step range.e_least in
    let both : (2 * 1) * 1 ≤ (2 * k.l) * (k.step * k.e + k.r) = mul-le (2 * 1) 1 (2 * k.l) (k.step * k.e + k.r) (omega (arith, range.l_least)) (omega arith) in
    omega (arith, law.within_tolerance, range.tau_below)
