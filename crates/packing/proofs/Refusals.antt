-- What the outcomes of packing and unpacking mean, and that what is right is accepted.
use Rattle.std.proofs.Common.{ℕ, ◌^◌, eqb, List, length, refl, ◌∙◌}
use Rattle.std.proofs.lemmas.Bool.{cond-true, cond_both, eq-eqb, eqb-true, eqb-false}
use Rattle.ring.proofs.Elements.{all_below_passes, fits_or_first}
use Rattle.packing.specs.Lengths.{packed_length}
use Rattle.packing.specs.Packing.{pack_outcome, pack_numbers_outcome, unpack_outcome}
use Rattle.packing.specs.Refusals.{PackMeans, PackNumbersMeans, PackingRefusals, PackingRefusesTheFirst, UnpackMeans}

module _ (w : ℕ) where
  pub pack_means : (xs : List ℕ) (room : ℕ) → PackMeans w xs room (pack_outcome w xs room)
  pack_means xs room =
      cond_both (eqb room (packed_length (length xs) w)) _ _ (PackMeans w xs room)
      (λ same. eqb-true _ _ same)
      (λ other. (eqb-false _ _ other, refl))

  pub pack_numbers_means : (xs : List ℕ) (room : ℕ) → PackNumbersMeans w xs room (pack_numbers_outcome w xs room)
  pack_numbers_means xs room =
      cond_both (eqb room (packed_length (length xs) w)) _ _ (PackNumbersMeans w xs room)
      (λ same.
      fits_or_first (length xs) (2 ^ w) xs refl (PackNumbersMeans w xs room) _ _
      (λ fit. (eqb-true _ _ same, fit))
      (λ first. (eqb-true _ _ same, first)))
      (λ other. (eqb-false _ _ other, refl))

  pub unpack_means : (bytes : List ℕ) (many : ℕ) → UnpackMeans w bytes many (unpack_outcome w bytes many)
  unpack_means bytes many =
      cond_both (eqb (length bytes) (packed_length many w)) _ _ (UnpackMeans w bytes many)
      (λ same. eqb-true _ _ same)
      (λ other. (eqb-false _ _ other, refl))

  refusals : PackingRefusals w
  refusals = record {
    pack_means = pack_means;
    pack_numbers_means = pack_numbers_means;
    unpack_means = unpack_means;
    packs = λ xs room right. cond-true _ _ _ (eq-eqb room (packed_length (length xs) w) right);
    packs_numbers = λ xs room right fit.
        cond-true _ _ _ (eq-eqb room (packed_length (length xs) w) right)
        ∙ cond-true _ _ _ (all_below_passes (2 ^ w) (length xs) xs refl fit);
    unpacks = λ bytes many long. cond-true _ _ _ (eq-eqb (length bytes) (packed_length many w) long);
  }

pub packing_refuses_the_first : PackingRefusesTheFirst
packing_refuses_the_first w = refusals w
