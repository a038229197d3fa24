use Rattle.std.proofs.Common.{◌≡◌, ◌*◌, ◌/◌, ◌^◌, take}
use Rattle.packing.specs.Packing.{digits}
use Rattle.packing.proofs.pack.pack_eight.Given as goal

-- the bytes so far, and what is left of the number
abbrev pub invariant-loop-byte : goal.invariant-loop-byte
invariant-loop-byte l =
    let x = l.initial.rest in
    (take l.byte-index l.output ≡ digits 8 l.byte-index x) ×
    (l.rest ≡ x / 2 ^ (l.byte-index * 8))
