use Rattle.std.proofs.Common.{rules}
use Rattle.keccak.proofs.permutation.parities.Goals as goal

pub returns : goal.returns
returns c = λ x below. let h = c.from_fn.ensures.items.at x 0 below in search rules
