-- Numbers of a few bits each, one after another, low bit first, as bytes.
use Rattle.std.specs.Prelude.{ℕ, zero, suc, ◌+◌, ◌*◌, ◌/◌, ◌%◌, ◌^◌, ◌==◌, nat_le}
use Rattle.std.specs.Prelude.{List, [], ◌∷◌, length, Ok, Result}
use Rattle.ring.specs.Elements.{AllBelow, first_not_below}
use Rattle.ring.specs.Faults.{checked}
use Rattle.ring.specs.declared.fault.Fault.{Fault}
use Rattle.ring.specs.declared.fault.Fault.TheVariants.{WrongLength, OutOfRange}
use Rattle.ring.specs.declared.place.TheConstants.{BYTES, OUTPUT}
use Rattle.packing.specs.Lengths.{packed_length}

-- what digits of w bits stand for, the lowest digit first
abbrev pub number : (w : ℕ) → List ℕ → ℕ
number w [] = 0
number w (x ∷ xs) = x + 2 ^ w * number w xs

-- the lowest digits of w bits of a number, so many of them, the lowest first
abbrev pub digits : (w many : ℕ) → ℕ → List ℕ
digits w zero x = []
digits w (suc many) x = x % 2 ^ w ∷ digits w many (x / 2 ^ w)

-- the bytes of numbers of w bits: those of the number whose digits they are
abbrev pub packed : (w : ℕ) → List ℕ → List ℕ
packed w xs = digits 8 (packed_length (length xs) w) (number w xs)

-- the numbers of w bits that bytes hold, so many of them
abbrev pub unpacked : (w many : ℕ) → List ℕ → List ℕ
unpacked w many bytes = digits w many (number 8 bytes)

-- none has more than w bits
abbrev pub AllFit : (w : ℕ) → List ℕ → Type 0
AllFit w xs = AllBelow (2 ^ w) xs

-- packing numbers of w bits into so much room
abbrev pub pack_outcome : (w : ℕ) → List ℕ → (room : ℕ) → Result (Unit {0}) Fault
pack_outcome w xs room = checked (room == packed_length (length xs) w) (WrongLength OUTPUT) (Ok tt)

-- unpacking so many numbers
abbrev pub unpack_outcome : (w : ℕ) → List ℕ → (many : ℕ) → Result (Unit {0}) Fault
unpack_outcome w bytes many = checked (length bytes == packed_length many w) (WrongLength BYTES) (Ok tt)

-- packing numbers that may have more than w bits, into so much room
abbrev pub pack_numbers_outcome : (w : ℕ) → List ℕ → (room : ℕ) → Result (Unit {0}) Fault
pack_numbers_outcome w xs room =
    checked (room == packed_length (length xs) w) (WrongLength OUTPUT)
    (checked (nat_le (length xs) (first_not_below (2 ^ w) xs)) (OutOfRange (first_not_below (2 ^ w) xs))
    (Ok tt))
