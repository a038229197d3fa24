use Rattle.std.proofs.Common.{◌≡◌, ◌*◌, ◌/◌, ◌^◌, take}
use Rattle.packing.specs.Packing.{digits}
use Rattle.packing.proofs.unpack.split_word.Given as goal

-- the digits so far, and what is left of the number
abbrev pub invariant-loop-number : goal.invariant-loop-number
invariant-loop-number l =
    let w = l.initial.bits in
    (take l.number-index l.numbers ≡ digits w l.number-index l.initial.word) ×
    (l.rest ≡ l.initial.word / 2 ^ (l.number-index * w))
