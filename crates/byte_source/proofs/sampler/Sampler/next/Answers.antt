use Rattle.std.proofs.Common.{sym, ◌∙◌}
use Rattle.byte_source.proofs.Keeping.{kept_none, kept_yes, kept_no}
use Rattle.byte_source.proofs.Reading.{still_keeps}
use Rattle.byte_source.proofs.sampler.Sampler.next.Goals as goal

pub returns-in_err-next_number-clause-gives : goal.returns-in_err-next_number-clause-gives
returns-in_err-next_number-clause-gives g c =
    rw c.from_residual.ensures (sym c.loop-number.invariant.same_kept ∙ kept_none c.args.self _ c.in_err-next_number.ensures.gives)

pub returns-then-number-self-clause-gives : goal.returns-then-number-self-clause-gives
returns-then-number-self-clause-gives g c =
    let group = c.in_ok-next_number.ensures.gives in
    sym c.loop-number.invariant.same_kept ∙ kept_yes c.args.self _ _ _ group _ c.low_bits-number.ensures c.if-number-self.true

pub loop-number-preserved : goal.loop-number-preserved
loop-number-preserved g c =
    let inv = c.loop-number.invariant in
    let f = c.in_ok-next_number.ensures in
    record {
      keeps = still_keeps g.S.ByteSource _ _ _ inv.keeps f.keeps;
      same_kept = sym (kept_no c.args.self _ _ _ f.gives _ c.low_bits-number.ensures c.if-number-self.false) ∙ inv.same_kept;
    }
