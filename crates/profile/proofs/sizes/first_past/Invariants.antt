use Rattle.std.proofs.Common.{◌≡◌, ◌+◌, ◌≤◌, drop}
use Rattle.profile.specs.Secrets.{first_past}
use Rattle.profile.proofs.sizes.first_past.Given as goal

abbrev pub invariant-loop-i : goal.invariant-loop-i
invariant-loop-i l = (l.i + first_past l.sum l.limit (drop l.i l.coefficients) ≡ first_past 0 l.limit l.coefficients) × (l.sum ≤ l.limit)
