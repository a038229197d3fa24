-- What the exported functions on packed numbers give and leave.
use Rattle.std.specs.Prelude.{ℕ, if◌then◌else◌, ◌&&◌, List, length, nat_le}
use Rattle.ring.specs.Faults.{after}
use Rattle.packing.specs.Packing.{pack_numbers_outcome, packed, unpacked, unpack_outcome}
use Rattle.exports.specs.Codes.{done_code, no_call}

-- what is said of a width that there is, or else `other`
abbrev pub if_width : {X : Type 0} → (width : ℕ) → X → X → X
if_width width says other = if nat_le 1 width && nat_le width 16 then says else other

abbrev pub pack_code : (width : ℕ) → (numbers output : List ℕ) → ℕ
pack_code width numbers output =
    if_width width (done_code (pack_numbers_outcome width numbers (length output))) no_call

abbrev pub pack_output : (width : ℕ) → (numbers output : List ℕ) → List ℕ
pack_output width numbers output =
    let outcome = pack_numbers_outcome width numbers (length output) in
    if_width width (after outcome (packed width numbers) output) output

abbrev pub unpack_code : (width : ℕ) → (bytes numbers : List ℕ) → ℕ
unpack_code width bytes numbers =
    if_width width (done_code (unpack_outcome width bytes (length numbers))) no_call

abbrev pub unpack_numbers : (width : ℕ) → (bytes numbers : List ℕ) → List ℕ
unpack_numbers width bytes numbers =
    let outcome = unpack_outcome width bytes (length numbers) in
    if_width width (after outcome (unpacked width (length numbers) bytes) numbers) numbers
