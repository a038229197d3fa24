use Rattle.std.proofs.Common.{◌≡◌, take}
use Rattle.packing.specs.Packing.{number}
use Rattle.packing.proofs.pack.joined_four.Given as goal

abbrev pub invariant-loop-i : goal.invariant-loop-i
invariant-loop-i l = l.sum ≡ number l.initial.bits (take l.i l.initial.digits)
