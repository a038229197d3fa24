use Rattle.std.proofs.Common.{◌≡◌, ◌*◌, take}
use Rattle.packing.specs.Packing.{unpacked}
use Rattle.packing.proofs.unpack.unpack_numbers.Given as goal

-- the numbers of the eights so far
abbrev pub invariant-loop-i : goal.invariant-loop-i
invariant-loop-i l =
    let w = l.initial.size in
    take (8 * l.i) l.numbers ≡ unpacked w (8 * l.i) (take (l.i * w) l.initial.bytes)
