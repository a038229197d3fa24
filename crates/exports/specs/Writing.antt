-- What the exported functions that write messages give and leave, for the profile of an index.
use Rattle.std.specs.Prelude.{ℕ, List, length}
use Rattle.ring.specs.Faults.{after}
use Rattle.message.specs.Messages.{Message, encoded}
use Rattle.message.specs.Writing.{write_outcome}
use Rattle.exports.specs.ByProfile.{by_profile}
use Rattle.exports.specs.Codes.{done_code, no_call}

abbrev pub write_code : (profile : ℕ) → Message → (output : List ℕ) → ℕ
write_code profile message output =
    by_profile (λ k _. done_code (write_outcome k message (length output))) no_call profile

abbrev pub write_output : (profile : ℕ) → Message → (output : List ℕ) → List ℕ
write_output profile message output =
    by_profile
    (λ k _. after (write_outcome k message (length output)) (encoded k message) output)
    output profile
