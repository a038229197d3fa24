use Rattle.std.proofs.Common.{◌≡◌, ◌-◌, ◌∙◌, length, min, ◌*◌, ◌/◌, ◌%◌, ◌^◌, sym, ap, arith}
use Rattle.packing.specs.Packing.{digits}
use Rattle.packing.proofs.Splitting.{halves_split}
use Rattle.packing.proofs.unpack.split.Goals as goal

pub returns : goal.returns
returns c =
    let n = length c.args.numbers.now in
    let w = c.args.width in
    let low_long : length c.split_at_mut-low.result.0.now ≡ min n 4 = c.split_at_mut-low.ensures.front_len ∙ c.min-middle.ensures in
    let high_long : length c.split_at_mut-low.result.1.now ≡ n - min n 4 = omega (arith, c.split_at_mut-low.ensures.back_len, c.min-middle.ensures) in
    halves_split w c.args.joined n c.split_word.new.numbers c.split_word-2.new.numbers (rw (sym c.bits.ensures.value) c.bits.ensures.is_width.at_most) c.requires.few
    (c.split_word.ensures ∙ (λ j. digits w (low_long j) (c.low_word.ensures j))) (c.split_word-2.ensures ∙ (λ j. digits w (high_long j) (c.low_word-2.ensures j)) ∙ ap (λ b. digits w (n - min n 4) (c.args.joined / 2 ^ (4 * b) % 2 ^ 64)) c.bits.ensures.value)
