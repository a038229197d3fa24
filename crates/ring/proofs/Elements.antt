-- Where a list first has an element that does not pass a test, or a number that is not below a bound.
use Rattle.std.proofs.Common.{inl, inr, ⊎_elim, if◌then◌else◌, ◌≡◌, ℕ, ◌<◌, ◌≤◌, leb, ltb, Bool, true, false, List, length, get_or, take, length-take, arith}
use Rattle.std.specs.Prelude.{All}
use Rattle.std.specs.List.{prefix_len}
use Rattle.std.proofs.lemmas.List.Elements.{All-from_get_or}
use Rattle.std.proofs.lemmas.List.{get_or-take}
use Rattle.std.proofs.lemmas.List.Sums.{prefix_len_passes, prefix_len_stops, prefix_len-le-length}
use Rattle.std.proofs.lemmas.Bool.{ltb-true, ltb-false, lt-ltb, le-leb, leb-true, leb-false, cond_both, cases_lt}
use Rattle.ring.specs.Elements.{AllBelow, FirstNotBelow, NoneOrFirst, NoneOrFirstNotBelow, first_not_below}

-- ---- elements that pass a test, which says P of them

module _ {X : Type 0} (p : X → Bool) (P : X → Type 0) (says : (x : X) → p x ≡ true → P x) (xs : List X) (d : X) where
  pub whole_passes : length xs ≤ prefix_len p xs → All P xs
  whole_passes h = All-from_get_or P xs d (λ k lt. says _ (prefix_len_passes p xs k d (omega arith)))

  pub passes_before : prefix_len p xs ≤ length xs → All P (take (prefix_len p xs) xs)
  passes_before h =
      let i = prefix_len p xs in
      All-from_get_or P (take i xs) d (λ k lt.
      let inside : k < i = omega (arith, length-take i xs) in
      rw (get_or-take i xs k d inside) (says _ (prefix_len_passes p xs k d inside)))

-- ---- numbers below a bound

pub all_below : (bound : ℕ) (xs : List ℕ) → length xs ≤ first_not_below bound xs → AllBelow bound xs
all_below bound xs h = whole_passes (λ x. ltb x bound) (λ x. x < bound) (λ x t. ltb-true _ _ t) xs 0 h

pub is_first_not_below : (bound : ℕ) (xs : List ℕ) → first_not_below bound xs < length xs → FirstNotBelow bound xs (first_not_below bound xs)
is_first_not_below bound xs h = record {
  inside = h;
  before = passes_before (λ x. ltb x bound) (λ x. x < bound) (λ x t. ltb-true _ _ t) xs 0 (omega arith);
  here = ltb-false _ _ (prefix_len_stops (λ x. ltb x bound) xs 0 h);
}

-- how many pass before the first other one, whichever test it is: all, or as many as its index
module _ {X : Type 0} (p : X → Bool) (xs : List X) (AllGood : Type 0) (FirstOther : ℕ → Type 0) where
  pub none_or_first : (length xs ≤ prefix_len p xs → AllGood) → (prefix_len p xs < length xs → FirstOther (prefix_len p xs)) → NoneOrFirst (length xs) AllGood FirstOther (prefix_len p xs)
  none_or_first good other =
      let most = prefix_len-le-length p xs in
      ⊎_elim
      (λ (shorter : prefix_len p xs < length xs). inr (other shorter))
      (λ (whole : length xs ≤ prefix_len p xs). inl (omega arith, good whole))
      (cases_lt (prefix_len p xs) (length xs))

pub none_or_first_not_below : (bound : ℕ) (xs : List ℕ) → NoneOrFirstNotBelow bound xs (first_not_below bound xs)
none_or_first_not_below bound xs =
    none_or_first (λ x. ltb x bound) xs (AllBelow bound xs) (FirstNotBelow bound xs) (all_below bound xs) (is_first_not_below bound xs)

-- n numbers below a bound, or the first that is not: what holds of the outcome either way
module _ {Y : Type 0} (n bound : ℕ) (xs : List ℕ) (long : length xs ≡ n) (P : Y → Type 0) (fits stops : Y) where
  pub fits_or_first : (AllBelow bound xs → P fits) → (FirstNotBelow bound xs (first_not_below bound xs) → P stops) → P (if leb n (first_not_below bound xs) then fits else stops)
  fits_or_first fit stop =
      cond_both (leb n (first_not_below bound xs)) fits stops P
      (λ whole. fit (all_below bound xs (omega (arith, leb-true _ _ whole))))
      (λ other. stop (is_first_not_below bound xs (omega (arith, leb-false _ _ other))))

-- ---- and back: how many come before the first that does not pass, or is not below the bound

-- where all pass, there is no first other one
pub all_pass : {X : Type 0} (p : X → Bool) (xs : List X) (d : X) → ((k : ℕ) → k < length xs → p (get_or xs k d) ≡ true) → length xs ≤ prefix_len p xs
all_pass p xs d passes =
    ⊎_elim
    (λ (stops : prefix_len p xs < length xs).
    let stop : p (get_or xs (prefix_len p xs) d) ≡ false = prefix_len_stops p xs d stops in
    let go : p (get_or xs (prefix_len p xs) d) ≡ true = passes (prefix_len p xs) stops in
    cc)
    (λ (no : length xs ≤ prefix_len p xs). no)
    (cases_lt (prefix_len p xs) (length xs))

pub all_below_reaches : (bound : ℕ) (xs : List ℕ) → AllBelow bound xs → length xs ≤ first_not_below bound xs
all_below_reaches bound xs below = all_pass (λ x. ltb x bound) xs 0 (λ k h. lt-ltb _ _ (below k 0 h))

-- so the test that n numbers are below the bound is passed
pub all_below_passes : (bound n : ℕ) (xs : List ℕ) → length xs ≡ n → AllBelow bound xs → leb n (first_not_below bound xs) ≡ true
all_below_passes bound n xs long below = le-leb n (first_not_below bound xs) (omega (arith, all_below_reaches bound xs below))

module _ (bound : ℕ) (xs : List ℕ) (i : ℕ) (first : FirstNotBelow bound xs i) where
  below_before : (k : ℕ) → k < i → get_or xs k 0 < bound
  below_before k h = rw (← get_or-take i xs k 0 h) (first.before k 0 (omega (arith, length-take i xs, first.inside)))

  pub first_not_below_is : first_not_below bound xs ≡ i
  first_not_below_is =
      ⊎_elim
      (λ (sooner : first_not_below bound xs < i).
      let stop = ltb-false _ _ (prefix_len_stops (λ x. ltb x bound) xs 0 (omega (arith, first.inside))) in
      absurd (omega (arith, stop, below_before (first_not_below bound xs) sooner)))
      (λ (rest : i ≤ first_not_below bound xs).
      ⊎_elim
      (λ (later : i < first_not_below bound xs). absurd (omega (arith, ltb-true _ _ (prefix_len_passes (λ x. ltb x bound) xs i 0 later), first.here)))
      (λ (no : first_not_below bound xs ≤ i). omega arith)
      (cases_lt i (first_not_below bound xs)))
      (cases_lt (first_not_below bound xs) i)
