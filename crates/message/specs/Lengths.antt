-- The lengths in bytes of messages and keys.
use Rattle.std.specs.Prelude.{ℕ, ◌+◌}
use Rattle.packing.specs.Lengths.{packed_length}
use Rattle.message.specs.declared.fixed_lengths.TheConstants.{COUNT_LENGTH, HEAD_LENGTH}
use Rattle.profile.specs.declared.seed.TheConstants.{SEED_LENGTH}
use Rattle.profile.specs.declared.numbers.Numbers.{Numbers}

-- n rounded values, and n signals
abbrev pub values_length : Numbers → ℕ
values_length k = packed_length k.n k.w

abbrev pub signals_length : Numbers → ℕ
signals_length k = packed_length k.n k.signal_width

-- a section is the count of its bytes, and then the bytes
abbrev pub section_length : ℕ → ℕ
section_length bytes = COUNT_LENGTH + bytes

-- a head, a seed and the rounded values
abbrev pub offer_length : Numbers → ℕ
offer_length k = section_length HEAD_LENGTH + section_length SEED_LENGTH + section_length (values_length k)

-- a head, the rounded values and the signals
abbrev pub answer_length : Numbers → ℕ
answer_length k =
    section_length HEAD_LENGTH + section_length (values_length k) + section_length (signals_length k)

abbrev pub confirmation_length : ℕ
confirmation_length = section_length HEAD_LENGTH

-- n key bits
abbrev pub key_length : Numbers → ℕ
key_length k = packed_length k.n 1
