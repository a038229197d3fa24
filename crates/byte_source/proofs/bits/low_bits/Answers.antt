use Rattle.std.proofs.Common.{◌≡◌, ◌-◌, ◌*◌, ◌%◌, ◌^◌, ap, ◌∙◌}
use lib.Bits.{bit_and}
use Rattle.std.proofs.lemmas.Nat.{one_shl, and_mask}
use Rattle.byte_source.proofs.bits.low_bits.Goals as goal

pub returns : goal.returns
returns c =
    let power : (1 * 2 ^ c.args.width) % 2 ^ 32 ≡ 2 ^ c.args.width = one_shl c.args.width 32 c.requires in
    ap (λ m. bit_and c.args.number (m - 1)) power ∙ and_mask c.args.number c.args.width
