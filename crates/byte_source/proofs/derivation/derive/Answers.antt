use Rattle.std.proofs.Common.{◌≤◌, length, sym, subst, arith}
use Rattle.std.proofs.lemmas.Grind.{common_steps}
use Rattle.ring.specs.declared.degree.TheConstants.{LARGEST_DEGREE}
use Rattle.profile.specs.declared.numbers.Numbers.{Numbers}
use Rattle.profile.proofs.Ranges.{n_most}
use Rattle.byte_source.proofs.Laws.{accepted_is_element}
use Rattle.byte_source.proofs.derivation.derive.Goals as goal

pub fill_through-requires : goal.fill_through-requires
fill_through-requires g c =
    let most = n_most _ g.met.P.Profile.lawful.in_range in
    let few = subst (λ (k : Numbers). k.n ≤ LARGEST_DEGREE) (sym c.NUMBERS.ensures) most in
    omega (arith, few)

pub returns-clause-element : goal.returns-clause-element
returns-clause-element g c =
    let k = g.P.Profile.NUMBERS in
    let bytes = g.S.ByteSource.expansion c.args.source.now c.args.seed.now in
    let old = c.args.output.now in
    let f = c.fill_through in
    accepted_is_element k.n k.q bytes (length old) f.result old f.new.output
    (grind (arith, common_steps))
    (grind (arith, common_steps))
