-- What the reconcilers are at every odd number from 3 to below 2^23, and not only at those that a number set
-- may have.
use Rattle.std.specs.Prelude.{ℕ}
use Rattle.ring.specs.Residues.{IsModulus}
use Rattle.reconcile.specs.Reconcilers.{Reconciles}
use Rattle.reconcile.specs.Ding.{ding_numbers, ding_functions}
use Rattle.reconcile.specs.Okcn.{okcn_numbers, okcn_functions}

pub record ReconcileAtEveryModulus : Type 0 where
  pub ding : (q : ℕ) → IsModulus q → Reconciles ding_numbers ding_functions q
  pub okcn : (q : ℕ) → IsModulus q → Reconciles okcn_numbers okcn_functions q
