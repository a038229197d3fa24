use Rattle.std.proofs.Common.{◌≡◌, ◌+◌, ◌-◌, ◌++◌, ◌∙◌, length, Err, drop, set, arith, rules}
use Rattle.hex.specs.Hex.{encode_lower, lower_digits}
use Rattle.hex.proofs.HexLemmas.{length-encode_with}
use borrow.Rule.Slice.PartMut.{put_mid}
use Rattle.ring.specs.declared.fault.Fault.TheVariants.{WrongLength}
use Rattle.message.proofs.HexadecimalLines.{outcome_means, line_written}
use Rattle.message.proofs.hexadecimal.hexadecimal_line.Goals as goal

pub returns-clause-writes : goal.returns-clause-writes
returns-clause-writes c =
    let word : c.copy_from_slice.new.self ≡ c.args.word.now = c.copy_from_slice.ensures.after ∙ c.as_bytes.ensures.value in
    let text : c.encode_to_slice.new.output ≡ encode_lower c.args.bytes.now = search rules in
    let long : length c.args.out.now ≡ length c.args.word.now + length (encode_lower c.args.bytes.now) + 2 =
    omega (arith, length-encode_with lower_digits c.args.bytes.now, c.if-out-length.false) in
    (λ j. set (put_mid (length c.args.word.now + 1) (length c.args.out.now - 1 - (length c.args.word.now + 1)) (set (word j ++ drop (length c.args.word.now) c.args.out.now) (length c.args.word.now) 32) (text j)) (length c.args.out.now - 1) 10)
    ∙ line_written c.args.word.now (encode_lower c.args.bytes.now) c.args.out.now long

pub returns-then-out-length-clause-means : goal.returns-then-out-length-clause-means
returns-then-out-length-clause-means c =
    outcome_means c.args.word.now c.args.bytes.now (length c.args.out.now) (Err (WrongLength 4)) (search rules)
