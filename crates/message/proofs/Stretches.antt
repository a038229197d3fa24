-- A section that was read is as long as its stretch.
use Rattle.std.proofs.Common.{◌≡◌, ℕ, List, length, drop, ◌∙◌, ap, arith}
use Rattle.std.proofs.lemmas.List.{length-take-le, length-drop}
use Rattle.std.specs.Borrow.{Bor}
use Rattle.message.specs.declared.section.Section.{Section}
use Rattle.message.specs.Shapes.{IsStretch}

pub section_long : {message : Bor (List ℕ)} {section : Section} {at many : ℕ} → IsStretch message section at many → length section.bytes.now ≡ many
section_long {message = message} {at = at} {many = many} is =
    let left = drop at message.now in
    ap length is.bytes ∙ length-take-le many left (omega (arith, is.inside, length-drop at message.now))
