use Rattle.std.proofs.Common.{◌≡◌, ◌+◌, Ok, Result, ap, subst, arith}
use Rattle.ring.specs.declared.fault.Fault.{Fault}
use Rattle.profile.specs.declared.numbers.Numbers.{Numbers}
use Rattle.survey.proofs.Measures.{count_within, surveyed_more}
use Rattle.survey.specs.Surveys.{distance, tie, Surveyed, widened}
use Rattle.survey.specs.declared.rounding.Rounded.{Rounded}
use Rattle.survey.specs.declared.rounding.RoundingSurvey.{RoundingSurvey}
use Rattle.survey.proofs.rounding.survey_rounding.Goals as goal

pub widen-survey-requires : goal.widen-survey-requires
widen-survey-requires g c =
    let q = ap (λ (s : Numbers). s.q) c.NUMBERS-x-end.ensures in
    let within = count_within (tie g.P.Profile.NUMBERS g.P.Profile.functions) c.loop-x.x in
    omega (arith, c.loop-x.invariant.ties, c.loop-x-test.true, g.met.P.Profile.lawful.in_range.q_below)

-- one and this are what the same call returned
widened_by : (s next : RoundingSurvey) (r : Result Rounded Fault) (one this : Rounded) → r ≡ Ok one → r ≡ Ok this → next ≡ widened s one.distance one.tie → widened s this.distance this.tie ≡ next
widened_by s next r one this p q e = cc

pub loop-x-preserved : goal.loop-x-preserved
loop-x-preserved g c =
    let k = g.P.Profile.NUMBERS in
    let f = g.P.Profile.functions in
    let x = c.loop-x.x in
    let s = c.loop-x.survey in
    subst (Surveyed k f (x + 1))
    (widened_by s c.widen-survey.result c.of-in-loop-x.result c.in_ok-of-2.field-0 (record { distance = distance f x; tie = tie k f x })
    c.in_ok-of-2.was c.of-in-loop-x.ensures c.widen-survey.ensures)
    (surveyed_more k f x s c.loop-x.invariant)
