-- Values that were worked out by hand, at the number set T. One list, to which later layers add theirs.
use Rattle.std.specs.Prelude.{◌≡◌, [], ◌∷◌}
use Rattle.element.specs.Products.{product}
use Rattle.profile.specs.Laws.{Functions}
use Rattle.reconcile.specs.Ding.{ding_numbers, ding_functions}
use Rattle.house.specs.House.{house_functions}
use Rattle.house.specs.NumberSets.{sizes_t}
use Rattle.reconcile.specs.Okcn.{okcn_numbers, okcn_functions}

abbrev ding : Functions
ding = house_functions sizes_t ding_numbers ding_functions

abbrev okcn : Functions
okcn = house_functions sizes_t okcn_numbers okcn_functions

pub record WorkedValues : Type 0 where
  -- the edges of Ding's inner region, by the coin
  pub ding_signal_64_coin_0 : ding.signal 64 0 ≡ 0
  pub ding_signal_193_coin_0 : ding.signal 193 0 ≡ 0
  pub ding_signal_65_coin_0 : ding.signal 65 0 ≡ 1
  pub ding_signal_192_coin_0 : ding.signal 192 0 ≡ 1
  pub ding_signal_65_coin_1 : ding.signal 65 1 ≡ 0
  pub ding_signal_66_coin_1 : ding.signal 66 1 ≡ 1
  pub ding_signal_193_coin_1 : ding.signal 193 1 ≡ 1
  -- the parity is that of the signed form
  pub ding_read_256_signal_0 : ding.read 256 0 ≡ 1
  -- a difference of 64 is beyond the tolerance of 63
  pub ding_key_bit_65_coin_1 : ding.key_bit 65 1 ≡ 1
  pub ding_read_127_signal_0 : ding.read 127 0 ≡ 1
  pub ding_read_129_signal_0 : ding.read 129 0 ≡ 0
  pub okcn_signal_128_coin_0 : okcn.signal 128 0 ≡ 3
  pub okcn_key_bit_128_coin_0 : okcn.key_bit 128 0 ≡ 0
  pub okcn_signal_128_coin_1 : okcn.signal 128 1 ≡ 0
  pub okcn_key_bit_128_coin_1 : okcn.key_bit 128 1 ≡ 1
  -- the quotient goes downward
  pub okcn_read_0_signal_3 : okcn.read 0 3 ≡ 1
  pub ding_round_1 : ding.round 1 ≡ 1
  pub ding_recover_1 : ding.recover 1 ≡ 5
  pub ding_round_256 : ding.round 256 ≡ 62
  pub ding_recover_62 : ding.recover 62 ≡ 252
  pub ding_round_255 : ding.round 255 ≡ 63
  pub ding_recover_63 : ding.recover 63 ≡ 257
  -- x^4 is -1
  pub product_by_x : product 4 257 (1 ∷ 2 ∷ 3 ∷ 4 ∷ []) (0 ∷ 1 ∷ 0 ∷ 0 ∷ []) ≡ 253 ∷ 1 ∷ 2 ∷ 3 ∷ []
