use Rattle.std.proofs.Common.{◌≡◌, ◌∙◌, length, sym, refl, arith}
use Rattle.std.proofs.lemmas.List.{take_all}
use Rattle.packing.specs.Packing.{digits}
use Rattle.packing.proofs.Splitting.{none_split, low_byte, split_more, rest_more}
use Rattle.packing.proofs.pack.pack_eight.Goals as goal

pub loop-byte-init : goal.loop-byte-init
loop-byte-init c = (refl, none_split 8 c.joined-rest.result)

pub loop-byte-preserved : goal.loop-byte-preserved
loop-byte-preserved c =
    let x = c.joined-rest.result in (
      split_more 8 x c.loop-byte.output c.loop-byte.byte-index c.loop-byte.rest _ (omega arith) c.loop-byte.invariant.1 (low_byte c.loop-byte.rest) c.loop-byte.invariant.0,
      rest_more 8 x c.loop-byte.byte-index c.loop-byte.rest c.loop-byte.invariant.1,
    )

pub returns : goal.returns
returns c =
    let all : c.loop-byte.byte-index ≡ length c.args.output.now = omega (arith, c.loop-byte.auto.byte-index-end) in
    sym (take_all c.loop-byte.byte-index c.loop-byte.output (omega (arith, c.loop-byte.auto.output)))
    ∙ c.loop-byte.invariant.0
    ∙ (λ j. digits 8 ((all ∙ c.requires.long) j) (c.joined-rest.ensures j))
