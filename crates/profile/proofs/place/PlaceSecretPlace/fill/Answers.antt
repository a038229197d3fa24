use Rattle.std.proofs.Common.{subst, arith}
use Rattle.profile.proofs.Secrets.{lawful_within}
use Rattle.profile.specs.Secrets.{LawfulSecret}
use Rattle.profile.specs.declared.bounds.Bounds.{Bounds}
use Rattle.profile.proofs.place.PlaceSecretPlace.fill.Goals as goal

-- what passed the three tests is lawful
pub invariant_of-self-clause-lawful : goal.invariant_of-self-clause-lawful
invariant_of-self-clause-lawful g c =
    let xs = c.args.coefficients.now in
    let lawful = lawful_within c.BOUNDS-bounds.result xs (omega arith) (omega arith) (omega arith) in
    λ _. rw c.copy_from_slice.ensures.items (subst (λ (b : Bounds). LawfulSecret b xs) c.BOUNDS-bounds.ensures lawful)
