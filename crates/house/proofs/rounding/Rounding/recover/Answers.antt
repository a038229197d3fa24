use Rattle.house.proofs.RoundingSteps.{recover_parts}
use Rattle.house.proofs.rounding.Rounding.recover.Goals as goal

pub returns : goal.returns
returns c = recover_parts c.args.self c.args.y
