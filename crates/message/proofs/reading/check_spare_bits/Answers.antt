use Rattle.std.proofs.Common.{◌*◌, sym, arith}
use Rattle.packing.proofs.Splitting.{bytes_fit}
use Rattle.message.proofs.SpareBits.{signals_least, signal_spare_set, signal_spare_clear}
use Rattle.message.proofs.reading.check_spare_bits.Goals as goal

pub bounds-signals-last : goal.bounds-signals-last
bounds-signals-last g c = omega (arith, signals_least g.P.Profile.NUMBERS g.met.P.Profile.lawful.in_range)

pub returns-then-from-used-gt0 : goal.returns-then-from-used-gt0
returns-then-from-used-gt0 g c =
    signal_spare_set g.P.Profile.NUMBERS g.met.P.Profile.lawful.in_range c.args.offset _ c.args.signals.now (bytes_fit _ (λ i. (c.type_inv.signals i).fits)) c.requires.long
    (λ j. (c.NUMBERS.ensures j).n * (c.NUMBERS-2.ensures j).signal_width) (rw (sym c.from.ensures) c.if-from-used-gt0.true)

pub returns : goal.returns
returns g c =
    signal_spare_clear g.P.Profile.NUMBERS g.met.P.Profile.lawful.in_range c.args.offset _ c.args.signals.now (bytes_fit _ (λ i. (c.type_inv.signals i).fits)) c.requires.long
    (λ j. (c.NUMBERS.ensures j).n * (c.NUMBERS-2.ensures j).signal_width) (rw (sym c.from.ensures) c.if-from-used-gt0.false)
