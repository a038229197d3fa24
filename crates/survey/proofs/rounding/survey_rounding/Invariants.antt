use Rattle.survey.specs.Surveys.{Surveyed}
use Rattle.survey.proofs.rounding.survey_rounding.Given as goal

abbrev pub invariant-loop-x : goal.invariant-loop-x
invariant-loop-x g l = Surveyed g.P.Profile.NUMBERS g.P.Profile.functions l.x l.survey
