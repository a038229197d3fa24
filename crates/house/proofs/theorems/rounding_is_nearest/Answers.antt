use Rattle.house.specs.LawProofs.Roundings.{recover_is}
use Rattle.house.proofs.Smallest.{round_is}
use Rattle.house.proofs.theorems.rounding_is_nearest.Goals as goal

pub returns : goal.returns
returns c = λ q p step parts less either. (recover_is q p step parts less either, round_is q p step parts less either)
