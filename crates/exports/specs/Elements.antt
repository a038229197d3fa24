-- What the exported functions on elements give and leave.
use Rattle.std.specs.Prelude.{◌≡◌, ℕ, ◌*◌, ◌<◌, if◌then◌else◌, List, length, Result, ◌==◌}
use Rattle.ring.specs.Faults.{after}
use Rattle.ring.specs.Residues.{IsModulus}
use Rattle.ring.specs.Scratch.{zeroed}
use Rattle.ring.specs.declared.fault.Fault.{Fault}
use Rattle.element.specs.Products.{product}
use Rattle.multiplier.specs.Multipliers.{IsDegree, multiply_outcome}
use Rattle.profile.specs.declared.numbers.Numbers.{Numbers}
use Rattle.byte_source.specs.Derivation.{derived, derive_outcome}
use Rattle.byte_source.specs.Shakes.{expanded}
use Rattle.exports.specs.ByProfile.{by_profile}
use Rattle.exports.specs.Codes.{done_code, no_call}
use Rattle.exports.specs.Seeds.{if_seed}

-- the words that the chosen multiplier needs: none for the schoolbook, 2n for the row sum
abbrev pub need_of : (row_sum n : ℕ) → ℕ
need_of row_sum n = if row_sum == 0 then 0 else 2 * n

module _ (row_sum n q : ℕ) (left right scratch scratch_after output output_after : List ℕ) (code : ℕ) where
  abbrev outcome : Result (Unit {0}) Fault
  outcome = multiply_outcome n q (need_of row_sum n) left right (length scratch) (length output)

  -- a product in a ring that there is
  pub record Called : Type 0 where
    pub code_is : code ≡ done_code outcome
    pub writes : output_after ≡ after outcome (product n q left right) output
    pub clears : scratch_after ≡ zeroed scratch

  -- no ring, no call
  pub record NotCalled : Type 0 where
    pub code_is : code ≡ no_call
    pub same_output : output_after ≡ output
    pub same_scratch : scratch_after ≡ scratch

  pub record Multiplied : Type 0 where
    pub in_a_ring : IsDegree n × IsModulus q → Called
    pub in_none : (IsDegree n × IsModulus q → ⊥) → NotCalled
    -- every other code means that there is a ring
    pub only_in_a_ring : code < no_call → IsDegree n × IsModulus q

-- the code of deriving from a list of bytes, and what the output then holds
abbrev pub derive_code : Numbers → List ℕ → List ℕ → ℕ
derive_code k bytes output = done_code (derive_outcome k.n k.q bytes (length output))

abbrev pub derive_output : Numbers → List ℕ → List ℕ → List ℕ
derive_output k bytes output =
    after (derive_outcome k.n k.q bytes (length output)) (derived k.n k.q bytes) output

-- the same from a tape, for the profile of an index
abbrev pub derive_tape_code : ℕ → List ℕ → List ℕ → ℕ
derive_tape_code profile tape output = by_profile (λ k _. derive_code k tape output) no_call profile

abbrev pub derive_tape_output : ℕ → List ℕ → List ℕ → List ℕ
derive_tape_output profile tape output = by_profile (λ k _. derive_output k tape output) output profile

-- the same from a seed
abbrev pub derive_seed_code : ℕ → List ℕ → List ℕ → ℕ
derive_seed_code profile seed output =
    if_seed seed (derive_tape_code profile (expanded seed) output) no_call

abbrev pub derive_seed_output : ℕ → List ℕ → List ℕ → List ℕ
derive_seed_output profile seed output =
    if_seed seed (derive_tape_output profile (expanded seed) output) output
