-- Hexadecimal, as the lines of published vectors have it.
use Rattle.std.specs.Prelude.{ℕ, List, codes}

-- the digits: letters are in lower case
abbrev pub lower_hex_digits : List ℕ
lower_hex_digits = codes "0123456789abcdef"
