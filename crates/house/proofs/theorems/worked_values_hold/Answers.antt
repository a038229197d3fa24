use Rattle.std.proofs.Common.{refl}
use Rattle.element.specs.Products.{product, integer_product, coefficient, sum_to}
use Rattle.house.proofs.theorems.worked_values_hold.Goals as goal

-- each value is computed
pub returns : goal.returns
unfolding product integer_product coefficient sum_to
returns c = record {
  ding_signal_64_coin_0 = refl;
  ding_signal_193_coin_0 = refl;
  ding_signal_65_coin_0 = refl;
  ding_signal_192_coin_0 = refl;
  ding_signal_65_coin_1 = refl;
  ding_signal_66_coin_1 = refl;
  ding_signal_193_coin_1 = refl;
  ding_read_256_signal_0 = refl;
  ding_key_bit_65_coin_1 = refl;
  ding_read_127_signal_0 = refl;
  ding_read_129_signal_0 = refl;
  okcn_signal_128_coin_0 = refl;
  okcn_key_bit_128_coin_0 = refl;
  okcn_signal_128_coin_1 = refl;
  okcn_key_bit_128_coin_1 = refl;
  okcn_read_0_signal_3 = refl;
  ding_round_1 = refl;
  ding_recover_1 = refl;
  ding_round_256 = refl;
  ding_recover_62 = refl;
  ding_round_255 = refl;
  ding_recover_63 = refl;
  product_by_x = refl;
}
