-- The sections are as long as the buffers ask.
use Rattle.std.proofs.Common.{arith}
use Rattle.std.proofs.lemmas.Grind.{common_steps}
use Rattle.message.proofs.Stretches.{section_long}
use Rattle.exports.proofs.reading.read_answer.Goals as goal

pub unwrap-requires : goal.unwrap-requires
unwrap-requires g c = let long = section_long c.in_ok-answer.ensures.sections.1.0 in grind (arith, common_steps)

pub unwrap-requires-2 : goal.unwrap-requires-2
unwrap-requires-2 g c = let long = section_long c.in_ok-answer.ensures.sections.1.1.0 in grind (arith, common_steps)
