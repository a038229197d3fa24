-- What a source of SHAKE128 expands a seed to, and where it is.
use Rattle.std.specs.Prelude.{ℕ, ◌+◌, ◌-◌, ◌*◌, List, []}
use Rattle.std.specs.Option.{option_map_or}
use Rattle.keccak.specs.Sponge.{shake128}
use Rattle.keccak.specs.declared.sponge.TheConstants.{RATE}
use Rattle.byte_source.specs.declared.shake.ShakeSource.{ShakeSource}
use Rattle.byte_source.specs.declared.stream.Stream.{Stream}
use Rattle.byte_source.specs.declared.stream.TheConstants.{STREAM_LENGTH}

-- what a seed expands to: whole blocks
abbrev pub expanded : List ℕ → List ℕ
expanded seed = shake128 seed STREAM_LENGTH

abbrev pub stream_bytes : Stream → List ℕ
stream_bytes stream = expanded stream.seed.value

-- all the bytes but those of the blocks to come, and those of the last block that are still to be given
abbrev pub stream_position : Stream → ℕ
stream_position stream = STREAM_LENGTH - (RATE * stream.left + (RATE - stream.offset))

abbrev pub shake_expansion : ShakeSource → List ℕ → List ℕ
shake_expansion source seed = expanded seed

abbrev pub shake_stream : ShakeSource → List ℕ
shake_stream source = option_map_or stream_bytes source.stream []

abbrev pub shake_position : ShakeSource → ℕ
shake_position source = option_map_or stream_position source.stream 0
