-- A house profile, from a number set and a reconciler; and the six that there are.
use Rattle.std.specs.Prelude.{◌*◌}
use Rattle.profile.specs.Laws.{Functions, Lawful}
use Rattle.profile.specs.declared.numbers.Numbers.{Numbers}
use Rattle.reconcile.specs.Ding.{ding_numbers, ding_functions}
use Rattle.house.specs.NumberSets.{sizes_t, sizes_s, sizes_w}
use Rattle.reconcile.specs.Okcn.{okcn_numbers, okcn_functions}
use Rattle.reconcile.specs.Reconcilers.{Reconciliation, tolerance}
use Rattle.house.specs.Rounding.{round, recover}
use Rattle.reconcile.specs.declared.reconciler.ReconcilerNumbers.{ReconcilerNumbers}
use Rattle.house.specs.declared.number_set.Sizes.{Sizes}

abbrev pub house_numbers : Sizes → ReconcilerNumbers → Numbers
house_numbers s k = record {
  n = s.n;
  q = s.q;
  p = s.p;
  w = s.w;
  e = s.e;
  l = s.l;
  step = k.step;
  r = k.step * s.rounding;
  tau = tolerance k s.q;
  coins = k.coins;
  signal_width = k.signal_width;
  numbers_byte = s.byte;
  reconciler_byte = k.byte;
}

abbrev pub house_functions : Sizes → ReconcilerNumbers → Reconciliation → Functions
house_functions s k f = record {
  round = round s.q s.p k.step;
  recover = recover s.q s.p k.step;
  signal = f.signal s.q;
  key_bit = f.key_bit s.q;
  read = f.read s.q;
}

abbrev pub t_ding : Numbers
t_ding = record {
  n = 4;
  q = 257;
  p = 63;
  w = 6;
  e = 1;
  l = 4;
  step = 2;
  r = 4;
  tau = 63;
  coins = 2;
  signal_width = 1;
  numbers_byte = 1;
  reconciler_byte = 1;
}

abbrev pub t_okcn : Numbers
t_okcn = record {
  n = 4;
  q = 257;
  p = 63;
  w = 6;
  e = 1;
  l = 4;
  step = 1;
  r = 2;
  tau = 47;
  coins = 2;
  signal_width = 2;
  numbers_byte = 1;
  reconciler_byte = 2;
}

abbrev pub s_ding : Numbers
s_ding = record {
  n = 512;
  q = 12289;
  p = 4095;
  w = 12;
  e = 2;
  l = 191;
  step = 2;
  r = 4;
  tau = 3071;
  coins = 2;
  signal_width = 1;
  numbers_byte = 2;
  reconciler_byte = 1;
}

abbrev pub s_okcn : Numbers
s_okcn = record {
  n = 512;
  q = 12289;
  p = 4095;
  w = 12;
  e = 2;
  l = 191;
  step = 1;
  r = 2;
  tau = 2303;
  coins = 2;
  signal_width = 2;
  numbers_byte = 2;
  reconciler_byte = 2;
}

abbrev pub w_ding : Numbers
w_ding = record {
  n = 256;
  q = 8380417;
  p = 16383;
  w = 14;
  e = 7;
  l = 1792;
  step = 2;
  r = 512;
  tau = 2095103;
  coins = 2;
  signal_width = 1;
  numbers_byte = 3;
  reconciler_byte = 1;
}

abbrev pub w_okcn : Numbers
w_okcn = record {
  n = 256;
  q = 8380417;
  p = 16383;
  w = 14;
  e = 7;
  l = 1792;
  step = 1;
  r = 256;
  tau = 1571327;
  coins = 2;
  signal_width = 2;
  numbers_byte = 3;
  reconciler_byte = 2;
}

-- each house profile meets the side conditions and the four laws
pub record HouseProfilesLawful : Type 0 where
  pub t_ding_lawful : Lawful t_ding (house_functions sizes_t ding_numbers ding_functions)
  pub t_okcn_lawful : Lawful t_okcn (house_functions sizes_t okcn_numbers okcn_functions)
  pub s_ding_lawful : Lawful s_ding (house_functions sizes_s ding_numbers ding_functions)
  pub s_okcn_lawful : Lawful s_okcn (house_functions sizes_s okcn_numbers okcn_functions)
  pub w_ding_lawful : Lawful w_ding (house_functions sizes_w ding_numbers ding_functions)
  pub w_okcn_lawful : Lawful w_okcn (house_functions sizes_w okcn_numbers okcn_functions)
