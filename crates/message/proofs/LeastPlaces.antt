-- A fault of shape names the least place that is wrong.
use Rattle.std.proofs.Common.{◌≡◌, ℕ, ◌+◌, ◌≤◌, true, false, eqb, leb, inl, inr, List, [], ◌∷◌, length, Some, None, Option, refl, arith}
use Rattle.std.specs.Option.{option_or}
use Rattle.std.proofs.lemmas.Bool.{and_from, and_parts, both_ways, cond_both, eq-eqb, eqb-true, le-leb, leb-true, leb-false}
use Rattle.packing.specs.Packing.{number}
use Rattle.message.specs.declared.fault.Fault.{Fault}
use Rattle.message.specs.declared.fault.Fault.TheVariants.{WrongShape}
use Rattle.message.specs.ReadingLaws.{FaultMeans, FirstAt, HasCount, ShapeIsWrongAt, TellsWrongShapes}
use Rattle.message.specs.Sections.{stretch}
use Rattle.message.specs.Shapes.{is_counted, shape_fault}

-- ---- places

-- the first place is wrong, and none that is wrong comes before it
pub first_at : (Wrong : ℕ → Type 0) (place : ℕ) → Wrong place → ((other : ℕ) → Wrong other → place ≤ other) → FirstAt Wrong place
first_at Wrong place here least = record { here = here; none_sooner = λ sooner lt wrong. omega (arith, lt, least sooner wrong) }

-- a fault of the same places
same_places : (fault_at : ℕ → Fault) (A B : ℕ → Type 0) → ((place : ℕ) → A place → B place) → ((place : ℕ) → B place → A place) → (f : Option Fault) → FaultMeans fault_at A f → FaultMeans fault_at B f
same_places fault_at A B to from None none = λ place wrong. none place (from place wrong)
same_places fault_at A B to from (Some fault) some =
    (some.0, some.1, record { here = to some.0 some.2.here; none_sooner = λ sooner lt wrong. some.2.none_sooner sooner lt (from sooner wrong) })

-- ---- counts

count_there : (at many : ℕ) (message : List ℕ) → is_counted at many message ≡ true → HasCount at many message
count_there at many message yes_ =
    let both = and_parts (leb (at + 2) (length message)) (eqb (number 8 (stretch at 2 message)) many) yes_ in
    record { there = leb-true _ _ both.0; count = eqb-true _ _ both.1 }

no_count : (at many : ℕ) (message : List ℕ) → is_counted at many message ≡ false → HasCount at many message → ⊥
no_count at many message no_ has =
    both_ways (is_counted at many message) no_ (and_from _ _ (le-leb _ _ has.there) (eq-eqb _ _ has.count))

-- ---- rows

-- each place that is wrong is at or after the start
after_start : (at : ℕ) (layout message : List ℕ) (place : ℕ) → ShapeIsWrongAt at layout message place → at ≤ place
after_start at [] message place wrong = omega (arith, wrong.0)
after_start at (many ∷ rest) message place (inl wrong) = omega (arith, wrong.0)
after_start at (many ∷ rest) message place (inr (inl wrong)) = omega (arith, wrong.0)
after_start at (many ∷ rest) message place (inr (inr wrong)) = omega (arith, after_start (at + 2 + many) rest message place wrong)

-- once a section is right, what is wrong is in the rest
module _ (at many : ℕ) (rest message : List ℕ) (counted : HasCount at many message) where
  in_rest : at + 2 + many ≤ length message → (place : ℕ) → ShapeIsWrongAt at (many ∷ rest) message place → ShapeIsWrongAt (at + 2 + many) rest message place
  in_rest fits place (inl count) = absurd (count.1 counted)
  in_rest fits place (inr (inl short)) = absurd (omega (arith, short.1, fits))
  in_rest fits place (inr (inr later)) = later

  from_cut : (place : ℕ) → ShapeIsWrongAt at (many ∷ rest) message place → at + 2 ≤ place
  from_cut place (inl count) = absurd (count.1 counted)
  from_cut place (inr (inl short)) = omega (arith, short.0)
  from_cut place (inr (inr later)) = omega (arith, after_start (at + 2 + many) rest message place later)

pub tells_wrong_shapes : TellsWrongShapes
tells_wrong_shapes at [] message =
    let Wrong = ShapeIsWrongAt at [] message in
    cond_both (leb (length message) at) _ _ (FaultMeans WrongShape Wrong)
    (λ inside place wrong. omega (arith, wrong.1, leb-true _ _ inside))
    (λ extra. (at, refl, first_at Wrong at (refl, leb-false _ _ extra) (λ other wrong. omega (arith, wrong.0))))
tells_wrong_shapes at (many ∷ rest) message =
    let Wrong = ShapeIsWrongAt at (many ∷ rest) message in
    let others = shape_fault (at + 2 + many) rest message in
    let Means = λ (f : Option Fault). FaultMeans WrongShape Wrong (option_or f others) in
    cond_both (is_counted at many message) _ _ Means
    (λ counted.
    let has = count_there at many message counted in
    cond_both (leb (at + 2 + many) (length message)) _ _ Means
    (λ fits.
    let room : at + 2 + many ≤ length message = leb-true _ _ fits in
    same_places WrongShape (ShapeIsWrongAt (at + 2 + many) rest message) Wrong (λ place later. inr (inr later)) (in_rest at many rest message has room) others
    (tells_wrong_shapes (at + 2 + many) rest message))
    (λ short. (at + 2, refl, first_at Wrong (at + 2) (inr (inl (refl, leb-false _ _ short))) (from_cut at many rest message has))))
    (λ not. (at, refl, first_at Wrong at (inl (refl, no_count at many message not)) (after_start at (many ∷ rest) message)))
