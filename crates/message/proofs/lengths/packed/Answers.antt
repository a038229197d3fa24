use Rattle.std.proofs.Common.{◌≤◌, sym, subst, arith}
use Rattle.profile.specs.declared.numbers.Numbers.{Numbers}
use Rattle.profile.proofs.Ranges.{n_most}
use Rattle.message.proofs.lengths.packed.Goals as goal

pub overflow_cast-result : goal.overflow_cast-result
overflow_cast-result g c =
    let few = subst (λ (s : Numbers). s.n ≤ 1024) (sym c.NUMBERS.ensures) (n_most _ g.met.P.Profile.lawful.in_range) in
    omega (arith, few, c.packed_length.ensures.bound)

pub returns-clause-bound : goal.returns-clause-bound
returns-clause-bound g c =
    let few = subst (λ (s : Numbers). s.n ≤ 1024) (sym c.NUMBERS.ensures) (n_most _ g.met.P.Profile.lawful.in_range) in
    omega (arith, few, c.packed_length.ensures.bound)
