use Rattle.reconcile.specs.LawProofs.Ding.{ding_sound}
use Rattle.reconcile.specs.LawProofs.Okcn.{okcn_sound}
use Rattle.house.specs.LawProofs.AdmissibleSets.{admissible_t, admissible_s, admissible_w}
use Rattle.house.specs.LawProofs.Lawfulness.{house_lawful}
use Rattle.house.proofs.theorems.house_profiles.Goals as goal

pub returns : goal.returns
returns c = record {
  rows = cc;
  lawful = record {
    t_ding_lawful = house_lawful _ _ _ admissible_t ding_sound;
    t_okcn_lawful = house_lawful _ _ _ admissible_t okcn_sound;
    s_ding_lawful = house_lawful _ _ _ admissible_s ding_sound;
    s_okcn_lawful = house_lawful _ _ _ admissible_s okcn_sound;
    w_ding_lawful = house_lawful _ _ _ admissible_w ding_sound;
    w_okcn_lawful = house_lawful _ _ _ admissible_w okcn_sound;
  };
}
