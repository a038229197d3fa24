use Rattle.std.proofs.Common.{◌≤◌}
use Rattle.std.specs.List.{AllWithin}
use Rattle.packing.proofs.fields.union.Given as goal

abbrev pub invariant-loop-x : goal.invariant-loop-x
invariant-loop-x l = AllWithin (λ x. x ≤ l.all) l.initial.numbers 0 l.x-index
