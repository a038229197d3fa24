use Rattle.message.proofs.Stretches.{section_long}
use Rattle.sections.proofs.show.show_offer.Goals as goal

pub unwrap-requires : goal.unwrap-requires
unwrap-requires g c = c.as_array.ensures.variant.1 (section_long c.in_ok-offer.ensures.sections.1.0)
