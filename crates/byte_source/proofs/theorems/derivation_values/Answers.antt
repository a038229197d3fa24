use Rattle.std.proofs.Common.{sym, refl, arith}
use Rattle.byte_source.specs.Derivation.{bits, groups, candidates, kept}
use Rattle.byte_source.proofs.BitCounts.{bits_is}
use Rattle.byte_source.proofs.theorems.derivation_values.Goals as goal

pub returns : goal.returns
unfolding bits groups candidates kept
returns c = record {
  groups_t = record { bits_are = sym (bits_is 256 9 (omega arith) (omega arith)); bytes_are = refl };
  groups_s = record { bits_are = sym (bits_is 12288 14 (omega arith) (omega arith)); bytes_are = refl };
  groups_w = record { bits_are = sym (bits_is 8380416 23 (omega arith) (omega arith)); bytes_are = refl };
  stream_length = refl;
  element_t = refl;
}
