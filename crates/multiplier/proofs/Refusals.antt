-- What each outcome of a multiplication says of the lists and buffers.
use Rattle.std.proofs.Common.{◌≡◌, ℕ, ◌≤◌, eqb, leb, List, length, Ok, Result, refl, sym, ◌∙◌, subst, inl, inr}
use Rattle.std.proofs.lemmas.Bool.{cond-true, cond_both, eq-eqb, le-leb, eqb-true, eqb-false, leb-true, leb-false}
use Rattle.ring.specs.Elements.{first_not_below}
use Rattle.ring.proofs.Elements.{fits_or_first, all_below_passes}
use Rattle.ring.specs.declared.fault.Fault.{Fault}
use Rattle.multiplier.proofs.Written.{product_is_element}
use Rattle.multiplier.specs.Multipliers.{Fitting, LengthsFit, MultiplyMeans, multiply_outcome}

pub multiply_means : (n q need : ℕ) (left right : List ℕ) (scratch output : ℕ) → MultiplyMeans n q need left right scratch output (multiply_outcome n q need left right scratch output)
multiply_means n q need left right scratch output =
    let Means = MultiplyMeans n q need left right scratch output in
    cond_both (eqb (length left) n) _ _ Means
    (λ left_is.
    let left_long : length left ≡ n = eqb-true _ _ left_is in
    cond_both (eqb (length right) n) _ _ Means
    (λ right_is.
    let right_long : length right ≡ n = eqb-true _ _ right_is in
    cond_both (leb need scratch) _ _ Means
    (λ enough.
    let scratch_long : need ≤ scratch = leb-true _ _ enough in
    cond_both (eqb output n) _ _ Means
    (λ output_is.
    let fit : LengthsFit n need (length left) (length right) scratch output = record {
      left_long = left_long;
      right_long = right_long;
      scratch_long = scratch_long;
      output_long = eqb-true _ _ output_is;
    } in
    fits_or_first n q left left_long Means _ _
    (λ left_below. fits_or_first n q right right_long Means _ _
    (λ right_below. record { lengths = fit; left_below = left_below; right_below = right_below })
    (λ first. (fit, inr (left_below, (first_not_below q right, refl, first)))))
    (λ first. (fit, inl first)))
    (λ other. inr (left_long, inr (right_long, inr (scratch_long, refl, eqb-false _ _ other)))))
    (λ short. inr (left_long, inr (right_long, inl (refl, leb-false _ _ short)))))
    (λ other. inr (left_long, inl (refl, eqb-false _ _ other))))
    (λ other. inl (refl, eqb-false _ _ other))

-- what an outcome that is the defined one says
pub outcome_means : (n q need : ℕ) (left right : List ℕ) (scratch output : ℕ) (outcome : Result (Unit {0}) Fault) → outcome ≡ multiply_outcome n q need left right scratch output → MultiplyMeans n q need left right scratch output outcome
outcome_means n q need left right scratch output outcome is =
    subst (MultiplyMeans n q need left right scratch output) (sym is) (multiply_means n q need left right scratch output)

pub fitting_is_accepted : (n q need : ℕ) (left right : List ℕ) (scratch output : ℕ) → Fitting n q need left right scratch output → multiply_outcome n q need left right scratch output ≡ Ok tt
fitting_is_accepted n q need left right scratch output fitting =
    let fit = fitting.lengths in
    cond-true _ _ _ (eq-eqb (length left) n fit.left_long)
    ∙ cond-true _ _ _ (eq-eqb (length right) n fit.right_long)
    ∙ cond-true _ _ _ (le-leb need scratch fit.scratch_long)
    ∙ cond-true _ _ _ (eq-eqb output n fit.output_long)
    ∙ cond-true _ _ _ (all_below_passes q n left fit.left_long fitting.left_below)
    ∙ cond-true _ _ _ (all_below_passes q n right fit.right_long fitting.right_below)

-- what multiplying shows: what its outcome means, and that an accepted product is an element
pub ruleset outcome_steps = (outcome_means, product_is_element)

-- what is proved of the tests as such
pub ruleset refusal_laws = (multiply_means, fitting_is_accepted)
