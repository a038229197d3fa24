use Rattle.std.proofs.Common.{◌≡◌, ◌*◌, take}
use Rattle.packing.specs.Packing.{packed}
use Rattle.packing.proofs.pack.pack_numbers.Given as goal

-- the bytes of the eights so far
abbrev pub invariant-loop-i : goal.invariant-loop-i
invariant-loop-i l =
    let w = l.initial.size in
    take (l.i * w) l.output ≡ packed w (take (8 * l.i) l.initial.numbers)
