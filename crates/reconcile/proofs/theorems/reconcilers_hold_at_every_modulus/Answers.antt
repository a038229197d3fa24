use Rattle.reconcile.specs.LawProofs.Ding.{ding_reconciles}
use Rattle.reconcile.specs.LawProofs.Okcn.{okcn_reconciles}
use Rattle.reconcile.proofs.theorems.reconcilers_hold_at_every_modulus.Goals as goal

pub returns : goal.returns
returns c = record { ding = ding_reconciles; okcn = okcn_reconciles }
