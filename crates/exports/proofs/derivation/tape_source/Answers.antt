-- A tape expands every seed to its bytes.
use Rattle.std.proofs.Common.{[]}
use Rattle.exports.proofs.derivation.tape_source.Goals as goal

pub returns : goal.returns
returns c = c.new.ensures.expands []
