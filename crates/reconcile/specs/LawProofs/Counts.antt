-- How many of the numbers below a bound pass a test: by parts, by an interval and by a parity.
use Rattle.std.specs.Prelude.{◌≡◌, ℕ, zero, suc, ◌+◌, ◌-◌, ◌/◌, ◌%◌, ◌<◌}
use Rattle.std.specs.Prelude.{◌≤◌, min, Bool, false, ◌⊎◌, Decides, nat_eq, refl}
use Rattle.std.proofs.Common.{inl, inr, ⊎_elim, add-zero, add-suc, arith}
use Rattle.std.proofs.lemmas.Bool.{cond-true, cond-false, cases_Bool, cases_lt}
use Rattle.std.proofs.lemmas.Bool.Decides.{nat_tests, not_from_Decides}
use Rattle.profile.specs.Counts.{count}

-- tests that agree below n pass equally many
pub count_same : (f g : ℕ → Bool) (n : ℕ) → ((x : ℕ) → x < n → f x ≡ g x) → count f n ≡ count g n
count_same f g zero same = refl
count_same f g (suc n) same =
    let before = count_same f g n (λ x h. same x (omega arith)) in
    let last = same n (omega arith) in
    cc

pub count_append : (f : ℕ → Bool) (m n : ℕ) → count f (m + n) ≡ count f m + count (λ x. f (m + x)) n
count_append f m zero = simp add-zero
count_append f m (suc n) =
    rw add-suc (let before = count_append f m n in omega arith)

-- the count by two parts, each with a test of its own
pub count_parts : (f g h : ℕ → Bool) (m n : ℕ) → ((x : ℕ) → x < m → f x ≡ g x)
    → ((x : ℕ) → x < n → f (m + x) ≡ h x) → count f (m + n) ≡ count g m + count h n
count_parts f g h m n first second =
    let parts = count_append f m n in
    let left = count_same f g m first in
    let right = count_same (λ x. f (m + x)) h n second in
    omega arith

pub count_none : (n : ℕ) → count (λ _. false) n ≡ 0
count_none zero = refl
count_none (suc n) = let before = count_none n in omega arith

-- what is not in a .. b - 1 lies before it or after it
pub outside_interval : (a b x : ℕ) → ((a ≤ x) × (x < b) → ⊥) → (x < a) ⊎ (b ≤ x)
outside_interval a b x out =
    ⊎_elim inl (λ from. ⊎_elim (λ to. absurd (out (from, to))) inr (cases_lt x b)) (cases_lt x a)

-- the numbers of a .. b - 1 below n
pub count_interval : (passes : ℕ → Bool) (a b : ℕ) → a ≤ b → (n : ℕ)
    → ((x : ℕ) → x < n → Decides (passes x) ((a ≤ x) × (x < b))) → count passes n ≡ min n b - min n a
count_interval passes a b h zero is = omega arith
count_interval passes a b h (suc n) is =
    let before = count_interval passes a b h n (λ x l. is x (omega arith)) in
    let here : Decides (passes n) ((a ≤ n) × (n < b)) = is n (omega arith) in
    ⊎_elim
    (λ t. omega (arith, cond-true {A = ℕ} (passes n) 1 0 t, here.0 t))
    (λ f. omega (
      arith,
      cond-false {A = ℕ} (passes n) 1 0 f,
      outside_interval a b n (not_from_Decides (passes n) here f),
    ))
    (cases_Bool (passes n))

-- every other number passes, from the first or the second on
pub count_parity : (k bit n : ℕ) → bit < 2
    → count (λ x. nat_eq ((x + k) % 2) bit) n ≡ (n + (k + bit + 1) % 2) / 2
count_parity k bit zero small = omega arith
count_parity k bit (suc n) small = let before = count_parity k bit n small in grind (arith, nat_tests)
