use Rattle.std.proofs.Common.{arith}
use Rattle.byte_source.proofs.BitCounts.{leading_bits, leading_is_bit_count}
use Rattle.byte_source.proofs.bits.bit_count.Goals as goal

pub returns : goal.returns
returns c = record {
  value = leading_bits c.args.m (omega arith);
  is_bit_count = leading_is_bit_count c.args.m (omega arith);
}
