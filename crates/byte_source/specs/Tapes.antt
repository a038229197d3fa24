-- What a tape expands a seed to, and where it is.
use Rattle.std.specs.Prelude.{ℕ, ◌-◌, List, [], length}
use Rattle.std.specs.Option.{option_map_or}
use Rattle.std.specs.Slice.Iter.{iter_rest}
use Rattle.byte_source.specs.declared.tape.Tape.{Tape}

-- its bytes, whichever the seed
abbrev pub tape_expansion : Tape → List ℕ → List ℕ
tape_expansion tape seed = tape.bytes.now

-- all of them, once it has begun
abbrev pub tape_stream : Tape → List ℕ
tape_stream tape = option_map_or (λ _. tape.bytes.now) tape.ahead []

-- how many of them are not ahead
abbrev pub tape_position : Tape → ℕ
tape_position tape = option_map_or (λ it. length tape.bytes.now - length (iter_rest it)) tape.ahead 0
