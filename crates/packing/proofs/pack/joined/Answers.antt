use Rattle.std.proofs.Common.{◌+◌, ◌*◌, ◌%◌, ◌^◌, ◌∙◌, take, drop, ap, sym}
use Rattle.packing.proofs.Joining.{halves_joined}
use Rattle.packing.proofs.pack.joined.Goals as goal

pub returns : goal.returns
returns c =
    let xs = c.args.digits.now in
    (λ j. (c.from.ensures ∙ c.joined_four.ensures) j + (c.from-2.ensures ∙ c.joined_four-2.ensures) j * 2 ^ (4 * c.bits.ensures.value j) % 2 ^ 128)
    ∙ halves_joined c.args.width xs _ _ (rw (sym c.bits.ensures.value) c.bits.ensures.is_width.at_most) c.requires.few c.requires.fit
    (c.split_at.ensures.front ∙ ap (λ m. take m xs) c.min.ensures) (c.split_at.ensures.back ∙ ap (λ m. drop m xs) c.min.ensures)
