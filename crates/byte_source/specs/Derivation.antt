-- The element that a list of bytes gives: in groups of bytes, each a number, those below q are kept.
use Rattle.std.specs.Prelude.{◌≡◌, ℕ, ◌+◌, ◌-◌, ◌*◌, ◌/◌, ◌%◌, ◌^◌, ◌<◌, ◌≤◌, ◌==◌, nat_lt, nat_le}
use Rattle.std.specs.Prelude.{List, map, filter, length, take, drop, Option, Some, None, Result, Ok}
use Rattle.std.specs.List.{range_with_len}
use Rattle.std.specs.Int.Digits.{digits_of}
use Rattle.keccak.specs.Sponge.{little_endian}
use Rattle.ring.specs.Faults.{checked}
use Rattle.ring.specs.declared.fault.Fault.{Fault}
use Rattle.ring.specs.declared.fault.Fault.TheVariants.{WrongLength, SourceSpent}
use Rattle.ring.specs.declared.place.TheConstants.{OUTPUT}

-- how many bits a number needs: its binary digits
unfoldable pub bits : ℕ → ℕ
bits m = length (digits_of 2 m)

-- b is the least number of bits that m fits
pub record IsBitCount (m b : ℕ) : Type 0 where
  pub fits : m < 2 ^ b
  pub least : 0 < b → 2 ^ (b - 1) ≤ m

-- how many bytes so many bits take
abbrev pub bytes_for : ℕ → ℕ
bytes_for b = (b + 7) / 8

-- the whole groups of c bytes, each as a number, its lowest byte first
unfoldable pub groups : ℕ → List ℕ → List ℕ
groups c bytes = map (λ g. little_endian (take c (drop (g * c) bytes))) (range_with_len 0 (length bytes / c))

-- the low bits of each group, as many as q - 1 needs
unfoldable pub candidates : ℕ → List ℕ → List ℕ
candidates q bytes = map (λ x. x % 2 ^ bits (q - 1)) (groups (bytes_for (bits (q - 1))) bytes)

unfoldable pub kept : ℕ → List ℕ → List ℕ
kept q bytes = filter (λ x. nat_lt x q) (candidates q bytes)

-- the first n that are kept
abbrev pub derived : ℕ → ℕ → List ℕ → List ℕ
derived n q bytes = take n (kept q bytes)

-- whether n numbers can be taken of those that are kept
abbrev pub keep_outcome : ℕ → List ℕ → Result (Unit {0}) Fault
keep_outcome n numbers = checked (nat_le n (length numbers)) (SourceSpent (length numbers)) (Ok tt)

-- the outcome of a derivation into an output of so many places
abbrev pub derive_outcome : ℕ → ℕ → List ℕ → ℕ → Result (Unit {0}) Fault
derive_outcome n q bytes places =
    checked (places == n) (WrongLength OUTPUT) (keep_outcome n (kept q bytes))

-- ---- the group at the front of a list

-- its c bytes are there, and give a number
pub record WholeGroup (c : ℕ) (bytes : List ℕ) (x : ℕ) (rest : List ℕ) : Type 0 where
  pub whole : c ≤ length bytes
  pub value : x ≡ little_endian (take c bytes)
  pub after : rest ≡ drop c bytes

abbrev pub GivesGroup : ℕ → List ℕ → Option ℕ → List ℕ → Type 0
GivesGroup c bytes (Some x) rest = WholeGroup c bytes x rest
GivesGroup c bytes None rest = length bytes < c
