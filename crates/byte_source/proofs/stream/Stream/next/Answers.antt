use Rattle.std.proofs.Common.{refl, arith}
use Rattle.byte_source.proofs.Squeezing.{byte_next, none_next}
use Rattle.byte_source.proofs.stream.Stream.next.Goals as goal
use Rattle.byte_source.proofs.stream.Stream.next.Goals.{then-self-eq-RATE+in_ok-squeeze, else-self-eq-RATE}

pub returns-in_err-squeeze-clause-gives : goal.returns-in_err-squeeze-clause-gives
returns-in_err-squeeze-clause-gives c =
    let f = c.in_err-squeeze.ensures in
    rw c.from_residual.ensures (none_next c.args.self.now c.squeeze.new.self f.seeded f.stays c.if-self-eq-RATE.true f.fresh)

pub returns-clause-gives : goal.returns-clause-gives
returns-clause-gives c =
    let before = c.args.self.now in
    let s = c.if-self-eq-RATE.self in
    elim c.if-self-eq-RATE.branch [
      | then-self-eq-RATE+in_ok-squeeze w ↦
          let f = w.in_ok-squeeze.ensures in
          byte_next before s (rw w.self-is f.seeded) (rw w.self-is f.stays) (rw w.self-is (omega (arith, f.fresh)))
      | else-self-eq-RATE w ↦
          byte_next before s (rw w.self-is refl) (rw w.self-is refl) (rw w.self-is (omega (arith, before.inside, w.if-self-eq-RATE.false)))
    ]
