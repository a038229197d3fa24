-- One step of each measure.
use Rattle.std.proofs.Common.{◌≡◌, ℕ, zero, suc, ◌+◌, ◌*◌, ◌^◌, ◌<◌, ◌≤◌, Bool, false, cond, ◌&&◌, eqb, leb, ◌⊎◌, ℤ, pos, ◌-ℤ◌, ◌≤ℤ◌, Ok, sym, refl, ap, ◌∙◌, subst, inl, inr, ⊎_elim, add-one, arith}
use lib.Signed.{lt_z}
use Rattle.std.proofs.lemmas.Int.{ints, clamps}
use Rattle.std.proofs.lemmas.Bool.{le-leb, lt-leb, and_left, cases_lt, cases_cond, cond_both}
use Rattle.std.specs.Int.{int_min, int_max}
use Rattle.profile.proofs.Accepted.{recovered}
use Rattle.profile.specs.Outcomes.{recover_outcome}
use Rattle.profile.specs.Counts.{count}
use Rattle.profile.specs.Laws.{Functions, Lawful}
use Rattle.profile.specs.declared.numbers.Numbers.{Numbers}
use Rattle.survey.specs.Surveys.{distance, tie, IsFirst, Surveyed, widened}
use Rattle.survey.specs.declared.rounding.RoundingSurvey.{RoundingSurvey}

last_or_below : (n x : ℕ) → x < n + 1 → (x ≡ n) ⊎ (x < n)
last_or_below n x h = ⊎_elim inr (λ le. inl (omega arith)) (cases_lt x n)

module _ (k : Numbers) (f : Functions) (x y t : ℕ) (y_is : y ≡ f.round x) (t_is : t ≡ f.recover y) where
  pub distance_is : pos t -ℤ pos x ≡ distance f x
  distance_is = ap (λ n. pos n -ℤ pos x) (t_is ∙ ap f.recover y_is)

  -- the next value of the class is there, and recovers to u
  pub tie_next : (u : ℕ) → u ≡ f.recover (y + k.step) → y + k.step ≤ k.p → eqb (t + u) (2 * x) ≡ tie k f x
  tie_next u u-is room =
      let here : tie k f x ≡ (leb (y + k.step) k.p && eqb (t + u) (2 * x)) = cc in
      sym (here ∙ ap (λ b. b && eqb (t + u) (2 * x)) (le-leb (y + k.step) k.p room))

  -- there is no next value
  pub tie_last : k.p < y + k.step → false ≡ tie k f x
  tie_last none =
      sym (and_left _ _ (ap (λ n. leb (n + k.step) k.p) (sym y_is) ∙ lt-leb (y + k.step) k.p none))

-- what is recovered stays below 2^24
pub recovered_below : (k : Numbers) (f : Functions) → Lawful k f → (y t : ℕ) → recover_outcome k f y ≡ Ok t → t < 2 ^ 24
recovered_below k f lawful y t e =
    ⊎_elim
    (λ over. absurd (let refused = lt-leb y k.p over in let z : ◌≡◌ {A = ℕ} 0 1 = cc in omega arith))
    (λ within. omega (arith, recovered k f y t e, lawful.recover_range y within, lawful.in_range.q_below))
    (cases_lt k.p y)

pub count_more : (passes : ℕ → Bool) (n : ℕ) → count passes (n + 1) ≡ count passes n + cond (passes n) 1 0
count_more passes n = ap (count passes) (add-one n)

pub count_within : (passes : ℕ → Bool) (n : ℕ) → count passes n ≤ n
count_within passes zero = omega arith
count_within passes (suc n) =
    let before = count_within passes n in
    cond_both (passes n) 1 0 (λ m. count passes n + m ≤ suc n) (λ e. omega arith) (λ e. omega arith)

-- the next is either the first so far or the new one, and stands before both
first_more : (before : ℤ → ℤ → Type 0) → ((a b c : ℤ) → before a b → before b c → before a c) → (d : ℕ → ℤ) (n : ℕ) (m next : ℤ) → IsFirst before d n m → before next m → before next (d n) → (next ≡ m) ⊎ (next ≡ d n) → IsFirst before d (n + 1) next
first_more before along d n m next was old new one = record {
  bound = λ x h.
      ⊎_elim
      (λ e. subst (λ y. before next (d y)) (sym e) new)
      (λ l. along next m (d x) old (was.bound x l))
      (last_or_below n x h);
  reached =
      ⊎_elim
      (λ e. (was.reached.0, omega (arith, was.reached.1), was.reached.2 ∙ sym e))
      (λ e. (n, omega arith, sym e))
      one;
}

≤ℤ-along : (a b c : ℤ) → a ≤ℤ b → b ≤ℤ c → a ≤ℤ c
≤ℤ-along a b c p q = omega (arith, ints)

minZ_one : (a b : ℤ) → (int_min a b ≡ a) ⊎ (int_min a b ≡ b)
minZ_one a b = ⊎_elim inr inl (cases_cond (lt_z b a) b a (int_min a b) refl)

maxZ_one : (a b : ℤ) → (int_max a b ≡ a) ⊎ (int_max a b ≡ b)
maxZ_one a b = cases_cond (lt_z b a) a b (int_max a b) refl

pub surveyed_more : (k : Numbers) (f : Functions) (n : ℕ) (s : RoundingSurvey) → Surveyed k f n s → Surveyed k f (n + 1) (widened s (distance f n) (tie k f n))
surveyed_more k f n s was =
    let d = distance f n in
    record {
      least = first_more (λ a b. a ≤ℤ b) ≤ℤ-along (distance f) n s.least (int_min s.least d) was.least (omega (arith, ints, clamps)) (omega (arith, ints, clamps)) (minZ_one s.least d);
      largest = first_more (λ a b. b ≤ℤ a) (λ a b c p q. ≤ℤ-along c b a q p) (distance f) n s.largest (int_max s.largest d) was.largest (omega (arith, ints, clamps)) (omega (arith, ints, clamps)) (maxZ_one s.largest d);
      ties = ap (λ m. m + cond (tie k f n) 1 0) was.ties ∙ sym (count_more (tie k f) n);
    }
