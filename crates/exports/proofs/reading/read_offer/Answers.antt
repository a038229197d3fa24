-- The sections are as long as the buffers ask.
use Rattle.std.proofs.Common.{sym, ◌∙◌, arith}
use Rattle.std.proofs.lemmas.Grind.{common_steps}
use Rattle.message.proofs.Stretches.{section_long}
use Rattle.exports.proofs.reading.read_offer.Goals as goal

pub unwrap-requires : goal.unwrap-requires
unwrap-requires g c = let long = section_long c.in_ok-offer.ensures.sections.1.1.0 in grind (arith, common_steps)

pub copy_from_slice-requires : goal.copy_from_slice-requires
copy_from_slice-requires g c = c.requires ∙ sym (section_long c.in_ok-offer.ensures.sections.1.0)
