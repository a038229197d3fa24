-- What a fault of spare bits says of the bits.
use Rattle.std.proofs.Common.{◌≡◌, ℕ, zero, suc, ◌+◌, ◌-◌, ◌*◌, ◌/◌, ◌%◌, ◌^◌, ◌<◌, ◌≤◌, eqb, ltb, ◌⊎◌, inl, inr, List, length, Some, None, refl, ap, ◌∙◌, ⊎_elim, arith}
use Rattle.std.specs.Int.{bit_at}
use Rattle.std.proofs.lemmas.Bool.{cond_both, cond-true, cond-false, eqb-true, eqb-false, lt-ltb, ltb-true, ltb-false, cases_Bool, cases_lt}
use Rattle.std.proofs.lemmas.List.{get_or_past}
use Rattle.std.proofs.lemmas.Nat.Bits.{bit_at_above, bit_at-zero}
use Rattle.packing.specs.Lengths.{packed_length}
use Rattle.packing.specs.Packing.{number, AllFit}
use Rattle.packing.specs.PackingLaws.{SpareClear, bit_of}
use Rattle.packing.proofs.Bits.{bit_of_bytes}
use Rattle.packing.proofs.Laws.{number_from_spare_clear}
use Rattle.message.specs.declared.fault.Fault.TheVariants.{SpareBit}
use Rattle.message.specs.MessageLaws.{TellsSpareBits}
use Rattle.message.specs.Reading.{spare_bit_fault}
use Rattle.message.specs.ReadingLaws.{FaultMeans, SpareBitIsSetAt}
use Rattle.message.proofs.LeastPlaces.{first_at}
use Rattle.message.proofs.Rows.{none_from_cond}

-- ---- bits of bytes, one after another

abbrev SetAmong : List ℕ → (first many : ℕ) → Type 0
SetAmong bytes first many = (j : ℕ) × (first ≤ j) × (bit_of bytes j ≡ 0 → ⊥)

abbrev ClearAmong : List ℕ → (first many : ℕ) → Type 0
ClearAmong bytes first many = (j : ℕ) → first ≤ j → j < first + many → bit_of bytes j ≡ 0

-- one of so many bits is set, or all are clear
set_or_clear : (bytes : List ℕ) (first many : ℕ) → SetAmong bytes first many ⊎ ClearAmong bytes first many
set_or_clear bytes first zero = inr (λ j after before. absurd (omega arith))
set_or_clear bytes first (suc many) =
    ⊎_elim
    (λ clear.
    ⊎_elim
    (λ (set : SetAmong bytes (suc first) many). inl (set.0, omega (arith, set.1), set.2))
    (λ (rest : ClearAmong bytes (suc first) many).
    inr (λ j after before.
    ⊎_elim
    (λ (later : first < j). rest j (omega arith) (omega arith))
    (λ (here : j ≤ first). ap (bit_of bytes) (omega arith) ∙ eqb-true _ _ clear)
    (cases_lt first j)))
    (set_or_clear bytes (suc first) many))
    (λ set. inl (first, omega arith, eqb-false _ _ set))
    (cases_Bool (eqb (bit_of bytes first) 0))

-- past the last byte no bit is set
past_clear : (bytes : List ℕ) (j : ℕ) → length bytes ≤ j / 8 → bit_of bytes j ≡ 0
past_clear bytes j past = ap (λ b. bit_at b (j % 8)) (get_or_past bytes (j / 8) 0 past) ∙ bit_at-zero (j % 8)

all_clear : (bytes : List ℕ) (first : ℕ) → ClearAmong bytes first (8 * length bytes) → (j : ℕ) → first ≤ j → bit_of bytes j ≡ 0
all_clear bytes first clear j after =
    ⊎_elim
    (λ (inside : j < first + 8 * length bytes). clear j after inside)
    (λ (past : first + 8 * length bytes ≤ j). past_clear bytes j (omega arith))
    (cases_lt j (first + 8 * length bytes))

-- ---- what is set after numbers

module _ (n w at : ℕ) (bytes : List ℕ) (fit : AllFit 8 bytes) (long : length bytes ≡ packed_length n w) where
  below_clear : number 8 bytes < 2 ^ (n * w) → SpareClear w n bytes
  below_clear below j after = bit_of_bytes bytes j fit ∙ bit_at_above (number 8 bytes) (n * w) j below after

  none_is_set : spare_bit_fault n w at (packed_length n w) bytes ≡ None → SpareClear w n bytes
  none_is_set none = below_clear (ltb-true _ _ (none_from_cond (ltb (number 8 bytes) (2 ^ (n * w))) (SpareBit (at + packed_length n w - 1)) None none).0)

  none_is_refused : SpareClear w n bytes → spare_bit_fault n w at (packed_length n w) bytes ≡ None
  none_is_refused clear = cond-true _ _ _ (lt-ltb (number 8 bytes) (2 ^ (n * w)) (number_from_spare_clear w n bytes fit clear))

  -- a bit that is set is in the last byte
  in_last_byte : (j : ℕ) → n * w ≤ j → (bit_of bytes j ≡ 0 → ⊥) → at + packed_length n w - 1 ≡ at + j / 8
  in_last_byte j after set =
      ⊎_elim
      (λ (inside : j / 8 < length bytes). omega arith)
      (λ (past : length bytes ≤ j / 8). absurd (set (past_clear bytes j past)))
      (cases_lt (j / 8) (length bytes))

  at_its_byte : (j : ℕ) → n * w ≤ j → (bit_of bytes j ≡ 0 → ⊥) → spare_bit_fault n w at (packed_length n w) bytes ≡ Some (SpareBit (at + j / 8))
  at_its_byte j after set =
      ⊎_elim
      (λ below. absurd (set (below_clear (ltb-true (number 8 bytes) (2 ^ (n * w)) below) j after)))
      (λ above. cond-false _ _ _ above ∙ ap (λ p. Some (SpareBit p)) (in_last_byte j after set))
      (cases_Bool (ltb (number 8 bytes) (2 ^ (n * w))))

  pub tells_spare_bits : TellsSpareBits n w at bytes
  tells_spare_bits = record { none_is_set = none_is_set; none_is_refused = none_is_refused; at_its_byte = at_its_byte }

  -- a fault names the first byte with such a bit
  pub names_spare_bit : FaultMeans SpareBit (SpareBitIsSetAt n w at bytes) (spare_bit_fault n w at (packed_length n w) bytes)
  names_spare_bit =
      let Set = SpareBitIsSetAt n w at bytes in
      let place = at + packed_length n w - 1 in
      cond_both (ltb (number 8 bytes) (2 ^ (n * w))) _ _ (FaultMeans SpareBit Set)
      (λ below other set. set.2 (below_clear (ltb-true _ _ below) set.0 set.1))
      (λ above.
      ⊎_elim
      (λ (set : SetAmong bytes (n * w) (8 * length bytes)).
      (place, refl, first_at Set place (set.0, set.1, set.2, in_last_byte set.0 set.1 set.2) (λ other wrong. omega (arith, in_last_byte wrong.0 wrong.1 wrong.2, wrong.3))))
      (λ (clear : ClearAmong bytes (n * w) (8 * length bytes)).
      absurd (omega (arith, ltb-false _ _ above, number_from_spare_clear w n bytes fit (all_clear bytes (n * w) clear))))
      (set_or_clear bytes (n * w) (8 * length bytes)))
