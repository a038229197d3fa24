use Rattle.std.proofs.Common.{◌∙◌, length, ap}
use Rattle.packing.specs.Packing.{digits}
use Rattle.packing.proofs.Splitting.{block_number}
use Rattle.packing.proofs.unpack.unpack_eight.Goals as goal

pub returns : goal.returns
returns c =
    c.split.ensures
    ∙ ap (digits c.args.width (length c.args.numbers.now)) (c.from_le_bytes.ensures ∙ block_number c.args.bytes.now _ c.copy_from_slice.ensures.after c.requires.short)
