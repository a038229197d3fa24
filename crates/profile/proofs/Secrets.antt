-- Where a list first passes a bound: one step of the running sum, what no such place says, what such a place says, and what filling a place means.
use Rattle.std.proofs.Common.{inl, inr, Ok, ◌≡◌, ℕ, suc, ◌+◌, ◌<◌, ◌≤◌, eqb, leb, List, [], ◌∷◌, length, get_or, take, drop, ℤ, pos, nat_abs, sum_by, sym, refl, ◌∙◌, subst, ⊎_elim, add-one, one-add, arith}
use Rattle.std.specs.Prelude.{All}
use Rattle.std.proofs.lemmas.List.{at_drop_more, at_drop_all}
use Rattle.std.proofs.lemmas.List.Sums.{sum_by-cons, prefix_len_stops}
use Rattle.std.proofs.lemmas.Bool.{cases_Bool, cases_lt, cond-true, cond-false, cond_both, eq-eqb, le-leb, lt-leb, leb-true, leb-false, eqb-true, eqb-false}
use Rattle.profile.specs.declared.bounds.Bounds.{Bounds}
use Rattle.ring.proofs.Elements.{whole_passes, passes_before, all_pass, none_or_first}
use Rattle.profile.specs.Secrets.{FillMeans, FirstBeyond, NoneOrFirstPast, NoneOrFirstBeyond, FirstPast, LawfulSecret, fill_outcome, first_beyond, first_past}

module _ (xs : List ℤ) (i sum l : ℕ) where
  pub summing_more : i < length xs → sum + nat_abs (get_or xs i (pos 0)) ≤ l → first_past sum l (drop i xs) ≡ 1 + first_past (sum + nat_abs (get_or xs i (pos 0))) l (drop (i + 1) xs)
  summing_more h fits = at_drop_more (first_past sum l) xs i (pos 0) h ∙ cond-true _ _ _ (le-leb _ _ fits)

  pub summing_stop : i < length xs → l < sum + nat_abs (get_or xs i (pos 0)) → first_past sum l (drop i xs) ≡ 0
  summing_stop h over = at_drop_more (first_past sum l) xs i (pos 0) h ∙ cond-false _ _ _ (lt-leb _ _ over)

  pub summing_end : length xs ≤ i → first_past sum l (drop i xs) ≡ 0
  summing_end h = at_drop_all (first_past sum l) xs i h

-- ---- a list that has no such place

all_within : (e : ℕ) (xs : List ℤ) → length xs ≤ first_beyond e xs → All (λ x. nat_abs x ≤ e) xs
all_within e xs h = whole_passes (λ x. leb (nat_abs x) e) (λ x. nat_abs x ≤ e) (λ x t. leb-true _ _ t) xs (pos 0) h

sum_within : (sum l : ℕ) (xs : List ℤ) → sum ≤ l → length xs ≤ first_past sum l xs → sum + sum_by nat_abs xs ≤ l
sum_within sum l [] start h = omega arith
sum_within sum l (x ∷ xs) start h =
    let s = sum + nat_abs x in
    ⊎_elim
    (λ t. let rest : s + sum_by nat_abs xs ≤ l = sum_within s l xs (leb-true _ _ t) (omega (arith, cond-true (leb s l) (1 + first_past s l xs) 0 t)) in
    omega (arith, sum_by-cons nat_abs x xs))
    (λ f. absurd (omega (arith, cond-false (leb s l) (1 + first_past s l xs) 0 f)))
    (cases_Bool (leb s l))

summing_most : (sum l : ℕ) (xs : List ℤ) → first_past sum l xs ≤ length xs
summing_most sum l [] = omega arith
summing_most sum l (x ∷ xs) =
    let s = sum + nat_abs x in
    ⊎_elim
    (λ t. omega (arith, cond-true (leb s l) (1 + first_past s l xs) 0 t, summing_most s l xs))
    (λ f. omega (arith, cond-false (leb s l) (1 + first_past s l xs) 0 f))
    (cases_Bool (leb s l))

-- a list of the right length that passes both tests
pub lawful_within : (b : Bounds) (xs : List ℤ) → length xs ≡ b.n → b.n ≤ first_beyond b.e xs → b.n ≤ first_past 0 b.l xs → LawfulSecret b xs
lawful_within b xs long small light = record {
  long = long;
  small = all_within b.e xs (omega arith);
  light = omega (arith, sum_within 0 b.l xs (omega arith) (omega arith));
}

-- ---- a list that has one

pub within_first : (e : ℕ) (xs : List ℤ) → first_beyond e xs < length xs → FirstBeyond e xs (first_beyond e xs)
within_first e xs h = record {
  inside = h;
  before = passes_before (λ x. leb (nat_abs x) e) (λ x. nat_abs x ≤ e) (λ x t. leb-true _ _ t) xs (pos 0) (omega arith);
  here = leb-false _ _ (prefix_len_stops (λ x. leb (nat_abs x) e) xs (pos 0) h);
}

pub none_or_first_beyond : (e : ℕ) (xs : List ℤ) → NoneOrFirstBeyond e xs (first_beyond e xs)
none_or_first_beyond e xs =
    none_or_first (λ x. leb (nat_abs x) e) xs (All (λ x. nat_abs x ≤ e) xs) (FirstBeyond e xs) (all_within e xs) (within_first e xs)

-- where no size is above e, there is no first one beyond
pub within_reaches : (e : ℕ) (xs : List ℤ) → All (λ x. nat_abs x ≤ e) xs → length xs ≤ first_beyond e xs
within_reaches e xs small = all_pass (λ x. leb (nat_abs x) e) xs (pos 0) (λ k h. le-leb _ _ (small k (pos 0) h))

-- i is where the sum, running on from `sum`, first passes l
abbrev PastFrom : ℕ → ℕ → List ℤ → ℕ → Type 0
PastFrom sum l xs i = (i < length xs) × (sum + sum_by nat_abs (take i xs) ≤ l) × (l < sum + sum_by nat_abs (take (suc i) xs))

past_from : (sum l : ℕ) (xs : List ℤ) → sum ≤ l → first_past sum l xs < length xs → PastFrom sum l xs (first_past sum l xs)
past_from sum l [] start h = absurd (omega arith)
past_from sum l (x ∷ xs) start h =
    let s = sum + nat_abs x in
    ⊎_elim
    (λ t.
    let i = first_past s l xs in
    let more : first_past sum l (x ∷ xs) ≡ suc i = cond-true (leb s l) (1 + i) 0 t ∙ one-add i in
    let rest = past_from s l xs (leb-true _ _ t) (omega arith) in
    subst (PastFrom sum l (x ∷ xs)) (sym more)
    (omega (arith, rest.0), omega (arith, rest.1, sum_by-cons nat_abs x (take i xs)), omega (arith, rest.2, sum_by-cons nat_abs x (take (suc i) xs))))
    (λ f.
    let stop : first_past sum l (x ∷ xs) ≡ 0 = cond-false (leb s l) (1 + first_past s l xs) 0 f in
    subst (PastFrom sum l (x ∷ xs)) (sym stop)
    (omega arith, omega arith, omega (arith, leb-false _ _ f, sum_by-cons nat_abs x [])))
    (cases_Bool (leb s l))

pub summing_first : (l : ℕ) (xs : List ℤ) → first_past 0 l xs < length xs → FirstPast l xs (first_past 0 l xs)
summing_first l xs h =
    let i = first_past 0 l xs in
    let past = past_from 0 l xs (omega arith) h in
    record { inside = past.0; before = omega (arith, past.1); here = rw add-one (omega (arith, past.2)) }

pub none_or_first_past : (l : ℕ) (xs : List ℤ) → NoneOrFirstPast l xs (first_past 0 l xs)
none_or_first_past l xs =
    ⊎_elim
    (λ (shorter : first_past 0 l xs < length xs). inr (summing_first l xs shorter))
    (λ (whole : length xs ≤ first_past 0 l xs). inl (omega (arith, summing_most 0 l xs), omega (arith, sum_within 0 l xs (omega arith) whole)))
    (cases_lt (first_past 0 l xs) (length xs))

pub ruleset past_steps = (summing_more, summing_stop, summing_end, none_or_first_past)

pub fill_means : (b : Bounds) (xs : List ℤ) → FillMeans b xs (fill_outcome b xs)
fill_means b xs =
    cond_both (eqb (length xs) b.n) _ _ (FillMeans b xs)
    (λ same.
    let long : length xs ≡ b.n = eqb-true _ _ same in
    cond_both (leb b.n (first_beyond b.e xs)) _ _ (FillMeans b xs)
    (λ inside.
    cond_both (leb b.n (first_past 0 b.l xs)) _ _ (FillMeans b xs)
    (λ fits. lawful_within b xs long (leb-true _ _ inside) (leb-true _ _ fits))
    (λ past. (long, all_within b.e xs (omega (arith, leb-true _ _ inside)), summing_first b.l xs (omega (arith, leb-false _ _ past)))))
    (λ beyond. (long, within_first b.e xs (omega (arith, leb-false _ _ beyond)))))
    (λ other. (eqb-false _ _ other, refl))

-- ---- what is accepted

summing_reaches : (sum l : ℕ) (xs : List ℤ) → sum + sum_by nat_abs xs ≤ l → length xs ≤ first_past sum l xs
summing_reaches sum l [] h = omega arith
summing_reaches sum l (x ∷ xs) h =
    let s = sum + nat_abs x in
    let rest : s + sum_by nat_abs xs ≤ l = omega (arith, sum_by-cons nat_abs x xs) in
    let fits : s ≤ l = omega arith in
    omega (arith, summing_reaches s l xs rest, cond-true (leb s l) (1 + first_past s l xs) 0 (le-leb s l fits))

pub lawful_fills : (b : Bounds) (xs : List ℤ) → LawfulSecret b xs → fill_outcome b xs ≡ Ok tt
lawful_fills b xs lawful =
    cond-true _ _ _ (eq-eqb (length xs) b.n lawful.long)
    ∙ cond-true _ _ _ (le-leb b.n (first_beyond b.e xs) (omega (arith, lawful.long, within_reaches b.e xs lawful.small)))
    ∙ cond-true _ _ _ (le-leb b.n (first_past 0 b.l xs) (omega (arith, lawful.long, summing_reaches 0 b.l xs (omega (arith, lawful.light)))))
