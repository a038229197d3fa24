-- The line that shows a list of bytes under a word.
use Rattle.std.specs.Prelude.{◌≡◌, ◌≢◌, ℕ, ◌+◌, ◌*◌, List, [], ◌∷◌, ◌++◌, length, ◌==◌, Ok, Err, Result}
use Rattle.ring.specs.Faults.{checked}
use Rattle.ring.specs.declared.fault.Fault.{Fault}
use Rattle.ring.specs.declared.fault.Fault.TheVariants.{WrongLength, OutOfRange}
use Rattle.ring.specs.declared.fault.Fault.TheVariants.{SumTooLarge, CoinOutOfRange, SourceSpent}
use Rattle.ring.specs.declared.place.TheConstants.{OUTPUT}
use Rattle.hex.specs.Hex.{encode_lower}

-- the word, a space, the bytes in lower-case hexadecimal, and a newline
abbrev pub hexadecimal_line : (word bytes : List ℕ) → List ℕ
hexadecimal_line word bytes = word ++ 32 ∷ (encode_lower bytes ++ 10 ∷ [])

abbrev pub hexadecimal_line_outcome : (word bytes : List ℕ) → (room : ℕ) → Result (Unit {0}) Fault
hexadecimal_line_outcome word bytes room =
    checked (room == length word + 2 * length bytes + 2) (WrongLength OUTPUT) (Ok tt)

-- what each outcome says of the room: that it is the line's length, or that it is not
abbrev pub HexadecimalLineMeans : (word bytes : List ℕ) → (room : ℕ) → Result (Unit {0}) Fault → Type 0
HexadecimalLineMeans word bytes room (Ok _) = room ≡ length (hexadecimal_line word bytes)
HexadecimalLineMeans word bytes room (Err (WrongLength place)) =
    (place ≡ OUTPUT) × (room ≢ length (hexadecimal_line word bytes))
HexadecimalLineMeans word bytes room (Err (OutOfRange place)) = ⊥
HexadecimalLineMeans word bytes room (Err (SumTooLarge place)) = ⊥
HexadecimalLineMeans word bytes room (Err (CoinOutOfRange place)) = ⊥
HexadecimalLineMeans word bytes room (Err (SourceSpent place)) = ⊥

-- every word and bytes, into any room
abbrev pub HexadecimalLineTakesItsLength : Type 0
HexadecimalLineTakesItsLength =
    (word bytes : List ℕ) (room : ℕ) →
    HexadecimalLineMeans word bytes room (hexadecimal_line_outcome word bytes room)
