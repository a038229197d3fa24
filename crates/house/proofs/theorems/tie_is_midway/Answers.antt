use Rattle.house.proofs.Ties.{tied_midway, midway_tied}
use Rattle.house.proofs.theorems.tie_is_midway.Goals as goal

pub returns : goal.returns
returns c = λ q p step parts less either x. (tied_midway q p step parts less either x, midway_tied q p step parts less either x)
