-- What holds of every derivation.
use Rattle.std.specs.Prelude.{◌≡◌, ◌≢◌, ℕ, ◌-◌, ◌<◌, ◌≤◌, Ok, Err, Result}
use Rattle.std.specs.Prelude.{List, [], ◌∷◌, ◌++◌, length}
use Rattle.ring.specs.Elements.{IsElement}
use Rattle.ring.specs.declared.fault.Fault.{Fault}
use Rattle.ring.specs.declared.fault.Fault.TheVariants.{WrongLength, OutOfRange, SumTooLarge}
use Rattle.ring.specs.declared.fault.Fault.TheVariants.{CoinOutOfRange, SourceSpent}
use Rattle.ring.specs.declared.place.TheConstants.{OUTPUT}
use Rattle.byte_source.specs.Derivation.{bits, bytes_for, kept, derived, derive_outcome}
use Rattle.byte_source.specs.declared.stream.TheConstants.{STREAM_LENGTH}

-- what each outcome says: that there is an element, or why there is none
abbrev pub DeriveMeans : (n q : ℕ) (bytes : List ℕ) (places : ℕ) → Result (Unit {0}) Fault → Type 0
DeriveMeans n q bytes places (Ok _) = (places ≡ n) × IsElement n q (derived n q bytes)
DeriveMeans n q bytes places (Err (WrongLength place)) = (places ≢ n) × (place ≡ OUTPUT)
DeriveMeans n q bytes places (Err (SourceSpent count)) =
    (places ≡ n) × (count ≡ length (kept q bytes)) × (count < n)
DeriveMeans n q bytes places (Err (OutOfRange i)) = ⊥
DeriveMeans n q bytes places (Err (SumTooLarge i)) = ⊥
DeriveMeans n q bytes places (Err (CoinOutOfRange i)) = ⊥

-- q - 1 needs b bits, which take c bytes
pub record Groups (q b c : ℕ) : Type 0 where
  pub bits_are : bits (q - 1) ≡ b
  pub bytes_are : bytes_for b ≡ c

pub record DerivationLaws : Type 0 where
  pub means : (n q : ℕ) (bytes : List ℕ) (places : ℕ) →
      DeriveMeans n q bytes places (derive_outcome n q bytes places)
  -- an output of n places, and a list of bytes that gives n numbers or more, are accepted
  pub accepts : (n q : ℕ) (bytes : List ℕ) (places : ℕ) → places ≡ n → n ≤ length (kept q bytes) →
      derive_outcome n q bytes places ≡ Ok tt
  -- bytes after those that suffice change nothing
  pub stable : (n q : ℕ) (bytes more : List ℕ) (places : ℕ) → 1 < q →
      derive_outcome n q bytes places ≡ Ok tt → derived n q (bytes ++ more) ≡ derived n q bytes

-- at the moduli of the number sets T, S and W; how many bytes SHAKE128 gives for a seed; and one element
-- that was worked out by hand
pub record DerivationValues : Type 0 where
  pub groups_t : Groups 257 9 2
  pub groups_s : Groups 12289 14 2
  pub groups_w : Groups 8380417 23 3
  pub stream_length : STREAM_LENGTH ≡ 4032
  pub element_t :
      derived 4 257 (0xff ∷ 0xff ∷ 0x64 ∷ 0x00 ∷ 0xc8 ∷ 0x00 ∷ 0x05 ∷ 0x00 ∷ 0x00 ∷ 0x00 ∷ [])
      ≡ 100 ∷ 200 ∷ 5 ∷ 0 ∷ []
