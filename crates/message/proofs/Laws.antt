-- The laws of messages.
use Rattle.std.proofs.Common.{refl}
use Rattle.message.specs.MessageLaws.{MessageLaws}
use Rattle.message.proofs.Accepting.{writes_lawful_parts}
use Rattle.message.proofs.Alike.{alike}
use Rattle.message.proofs.LeastPlaces.{tells_wrong_shapes}
use Rattle.message.proofs.HexadecimalLines.{line_means}
use Rattle.message.proofs.ReadBack.{reads_back}
use Rattle.message.proofs.ReadingLaws.{reading_means}
use Rattle.message.proofs.SpareLaws.{tells_spare_bits}
use Rattle.message.proofs.WrongHeads.{tells_wrong_heads}
use Rattle.message.proofs.WritingLaws.{accepts_what_fits, write_means}
use Rattle.message.proofs.WrittenAgain.{is_written_from_its_parts}

pub message_laws : MessageLaws
message_laws = record {
  fixed_lengths = record { count = refl; head = refl; seed = refl };
  writes_lawful_parts = writes_lawful_parts;
  reads_back = reads_back;
  is_written_from_its_parts = is_written_from_its_parts;
  tells_kind_profile_and_round = alike;
  writing_refuses_the_first = write_means;
  writing_accepts_what_fits = accepts_what_fits;
  line_takes_its_length = line_means;
  reading_refuses_the_first = reading_means;
  tells_wrong_shapes = tells_wrong_shapes;
  tells_wrong_heads = tells_wrong_heads;
  tells_spare_bits = tells_spare_bits;
}
