use Rattle.std.proofs.Common.{arith}
use Rattle.reconcile.specs.LawProofs.Okcn.{reconciled_from}
use Rattle.reconcile.proofs.okcn.OkcnReconciler.reconcile.Goals as goal

pub returns-in-0 : goal.returns-in-0
returns-in-0 c = let half = c.if-z-q.key_bit in
    reconciled_from c.args.q c.args.x c.args.coin half.0 half.1 0 (omega arith) (omega arith) (grind arith) (omega arith) (omega arith) (omega arith)

pub returns-in-0-2 : goal.returns-in-0-2
returns-in-0-2 c = let half = c.if-z-q.key_bit in
    reconciled_from c.args.q c.args.x c.args.coin half.0 half.1 1 (omega arith) (omega arith) (grind arith) (omega arith) (omega arith) (omega arith)

pub returns-in-0-3 : goal.returns-in-0-3
returns-in-0-3 c = let half = c.if-z-q.key_bit in
    reconciled_from c.args.q c.args.x c.args.coin half.0 half.1 2 (omega arith) (omega arith) (grind arith) (omega arith) (omega arith) (omega arith)

pub returns-in-0-4 : goal.returns-in-0-4
returns-in-0-4 c = let half = c.if-z-q.key_bit in
    reconciled_from c.args.q c.args.x c.args.coin half.0 half.1 3 (omega arith) (omega arith) (grind arith) (omega arith) (omega arith) (grind arith)
