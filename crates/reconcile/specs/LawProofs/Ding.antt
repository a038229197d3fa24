-- The Ding reconciler tolerates the differences that it states, and its signal leaves the key bit open.
use Rattle.std.specs.Prelude.{◌≡◌, ℕ, ◌+◌, ◌-◌, ◌*◌, ◌/◌, ◌%◌, ◌<◌, ◌≤◌, Bool, true, false, cond}
use Rattle.std.specs.Prelude.{◌&&◌, ℤ, pos, negsuc, ◌+ℤ◌, neg_ℤ, ◌==◌, int_le, unsigned_abs, refl}
use Rattle.std.proofs.Common.{⊎_elim, sym, ap, ◌∙◌, subst, mod-lt, arith}
use Rattle.std.proofs.Common.{rules, below_more, below_none, lit<, lit≤}
use Rattle.std.proofs.lemmas.Int.{ints}
use Rattle.std.proofs.lemmas.Bool.{cases_lt, cond_both}
use Rattle.ring.specs.Residues.{residue, signed, IsModulus}
use Rattle.ring.proofs.Residues.{residue_below, residue_pos, residue_over, signed_low, signed_high}
use Rattle.profile.specs.Counts.{count}
use Rattle.profile.specs.Laws.{MultipleWithin, key_count}
use Rattle.reconcile.specs.Reconcilers.{tolerance, Reconciles, Sound}
use Rattle.reconcile.specs.Ding.{within, ding_signal, ding_read, ding_functions, ding_numbers}
use Rattle.reconcile.specs.LawProofs.Counts.{count_parts, count_none, count_parity}
use Rattle.reconcile.specs.LawProofs.Near.{Near, above, below, above_wrapped}
use Rattle.reconcile.specs.LawProofs.Near.{below_wrapped, residue_near, near_itself}

abbrev ding_count : ℕ → ℕ → ℕ → ℕ → ℕ
ding_count q = key_count (ding_signal q) (λ x coin. ding_read q x (ding_signal q x coin)) q

-- the two key bits differ by at most one in how many residues they have
abbrev Balanced : ℕ → ℕ → ℕ → Type 0
Balanced q coin signal =
    (ding_count q coin signal 0 ≤ ding_count q coin signal 1 + 1)
    × (ding_count q coin signal 1 ≤ ding_count q coin signal 0 + 1)

-- the test where each residue has the signal s, and the x-th has the parity of x + k for its key bit
abbrev passes_part : (signal bit s k : ℕ) → ℕ → Bool
passes_part signal bit s k x = s == signal && (x + k) % 2 == bit

below_two : (P : ℕ → Type 0) → P 0 → P 1 → (n : ℕ) → n < 2 → P n
below_two P p r = below_more P 1 (below_more P 0 (below_none P) p) r

-- the signal of s, where the inner region is low .. high
abbrev pub region_signal : ℤ → ℤ → ℤ → ℕ
region_signal low high s = cond (within low high s) 0 1

module _ (low high s : ℤ) where
  pub signal_inside : int_le low s ≡ true → int_le s high ≡ true → region_signal low high s ≡ 0
  signal_inside a b = grind arith

  pub signal_under : int_le low s ≡ false → region_signal low high s ≡ 1
  signal_under a = grind arith

  pub signal_over : int_le s high ≡ false → region_signal low high s ≡ 1
  signal_over b = grind arith

abbrev pub lowest : ℕ → ℕ → ℤ
lowest q coin = neg_ℤ (pos (q / 4)) +ℤ pos coin

abbrev pub highest : ℕ → ℕ → ℤ
highest q coin = pos (q / 4) +ℤ pos coin

abbrev pub signal_at : ℕ → ℕ → ℤ → ℕ
signal_at q coin s = region_signal (lowest q coin) (highest q coin) s

-- a number below 2q, reduced
module _ (q n m : ℕ) (h : m < q) where
  mod_stays : n ≡ m → n % q ≡ m
  mod_stays e = ap (λ k. k % q) e ∙ residue_pos q m h

  mod_wraps : n ≡ m + q → n % q ≡ m
  mod_wraps e = ap (λ k. k % q) e ∙ residue_over q m h

module _ (q : ℕ) (is : IsModulus q) where
  -- the parity of the signed form of m
  abbrev parity : ℕ → ℕ
  parity m = unsigned_abs (signed q m) % 2

  parity_low : (m : ℕ) → m ≤ (q - 1) / 2 → parity m ≡ m % 2
  parity_low m h = ap (λ s. unsigned_abs s % 2) (signed_low q m is.odd (omega arith) h)

  parity_high : (m : ℕ) → (q - 1) / 2 < m → m < q → parity m ≡ (m + 1) % 2
  parity_high m h k = ap (λ s. unsigned_abs s % 2) (signed_high q m is.odd k h) ∙ omega arith

  -- the key bit that is read, as the parity of a natural
  read_low : (y : ℕ) → y ≤ (q - 1) / 2 → ding_read q y 0 ≡ y % 2
  read_low y h =
      ap parity (mod_stays q _ y (omega arith) (omega arith)) ∙ parity_low y h

  read_high : (y : ℕ) → (q - 1) / 2 < y → y < q → ding_read q y 0 ≡ (y + 1) % 2
  read_high y h k =
      ap parity (mod_stays q _ y k (omega arith)) ∙ parity_high y h k

  read_moved : (y : ℕ) → 0 < y → y < q → ding_read q y 1 ≡ (y + ((q - 1) / 2 + 1)) % 2
  read_moved y h k =
      let half : ℕ = (q - 1) / 2 in
      ⊎_elim
      (λ stays. ap parity (mod_stays q (y + 1 * half) (y + half) stays (omega arith))
      ∙ parity_high (y + half) (omega arith) stays ∙ omega arith)
      (λ wraps. ap parity (mod_wraps q (y + 1 * half) (y + half - q) (omega arith) (omega arith))
      ∙ parity_low (y + half - q) (omega arith) ∙ omega arith)
      (cases_lt (y + half) q)

  module _ (wide : 4 ≤ q) (x coin : ℕ) (h : x < q) (small : coin < 2) where
    inner_low : x ≤ q / 4 + coin → ding_signal q x coin ≡ 0
    inner_low a =
        ap (signal_at q coin) (signed_low q x is.odd h (omega arith))
        ∙ signal_inside (lowest q coin) (highest q coin) (pos x) (grind (arith, ints)) (grind (arith, ints))

    inner_high : q + coin ≤ q / 4 + x → ding_signal q x coin ≡ 0
    inner_high a =
        ap (signal_at q coin) (signed_high q x is.odd h (omega arith))
        ∙ signal_inside (lowest q coin) (highest q coin) (negsuc (q - 1 - x))
        (grind (arith, ints)) (grind (arith, ints))

    outer : q / 4 + coin < x → q / 4 + x < q + coin → ding_signal q x coin ≡ 1
    outer a b =
        ⊎_elim
        (λ beyond. ap (signal_at q coin) (signed_high q x is.odd h beyond)
        ∙ signal_under (lowest q coin) (highest q coin) (negsuc (q - 1 - x)) (grind (arith, ints)))
        (λ near. ap (signal_at q coin) (signed_low q x is.odd h near)
        ∙ signal_over (lowest q coin) (highest q coin) (pos x) (grind (arith, ints)))
        (cases_lt ((q - 1) / 2) x)

    -- a residue at an even distance below q/4 is read alike
    module _ (y m : ℕ) (k : y < q) (even : m % 2 ≡ 0) (size : m < q / 4) where
      tolerant_low : x ≤ q / 4 + coin → Near q x m y → ding_read q y 0 ≡ x % 2
      tolerant_low a (above e) = read_low y (omega arith) ∙ omega arith
      tolerant_low a (below e) = read_low y (omega arith) ∙ omega arith
      tolerant_low a (above_wrapped e) = absurd (omega arith)
      tolerant_low a (below_wrapped e) = read_high y (omega arith) k ∙ omega arith

      tolerant_high : q + coin ≤ q / 4 + x → Near q x m y → ding_read q y 0 ≡ (x + 1) % 2
      tolerant_high a (above e) = read_high y (omega arith) k ∙ omega arith
      tolerant_high a (below e) = read_high y (omega arith) k ∙ omega arith
      tolerant_high a (above_wrapped e) = read_low y (omega arith) ∙ omega arith
      tolerant_high a (below_wrapped e) = absurd (omega arith)

      tolerant_outer : q / 4 + coin < x → q / 4 + x < q + coin → Near q x m y
          → ding_read q y 1 ≡ (x + ((q - 1) / 2 + 1)) % 2
      tolerant_outer a b (above e) = read_moved y (omega arith) k ∙ omega arith
      tolerant_outer a b (below e) = read_moved y (omega arith) k ∙ omega arith
      tolerant_outer a b (above_wrapped e) = absurd (omega arith)
      tolerant_outer a b (below_wrapped e) = absurd (omega arith)

      abbrev Alike : ℕ → Type 0
      Alike signal = ding_read q y signal ≡ ding_read q x signal

      alike : {signal : ℕ} → ding_signal q x coin ≡ signal → Alike signal → Alike (ding_signal q x coin)
      alike e r = ap (ding_read q y) e ∙ r ∙ sym (ap (ding_read q x) e)

      tolerant_beyond : q / 4 + coin < x → Near q x m y → Alike (ding_signal q x coin)
      tolerant_beyond a near =
          ⊎_elim
          (λ b. alike (outer a b) (tolerant_outer a b near ∙ sym (read_moved x (omega arith) h)))
          (λ b. alike (inner_high b) (tolerant_high b near ∙ sym (read_high x (omega arith) h)))
          (cases_lt (q / 4 + x) (q + coin))

      tolerant : Near q x m y → Alike (ding_signal q x coin)
      tolerant near =
          ⊎_elim
          (λ a. tolerant_beyond a near)
          (λ a. alike (inner_low a) (tolerant_low a near ∙ sym (read_low x (omega arith))))
          (cases_lt (q / 4 + coin) x)

  -- the residues in order: a inner ones from 0 on, then b outer ones, then d inner ones
  module _ (wide : 4 ≤ q) (coin a b d : ℕ) (small : coin < 2) (starts : a ≡ q / 4 + coin + 1)
      (ends : d + coin ≡ q / 4) (whole : q ≡ a + (b + d)) where
    abbrev passes : ℕ → ℕ → ℕ → Bool
    passes signal bit x = ding_signal q x coin == signal && ding_read q x (ding_signal q x coin) == bit

    passes_at : (signal bit x : ℕ) {s t : ℕ} → ding_signal q x coin ≡ s → ding_read q x s ≡ t
        → passes signal bit x ≡ (s == signal && t == bit)
    passes_at signal bit x e r = cc

    inner_first : (signal bit x : ℕ) → x < a → passes signal bit x ≡ passes_part signal bit 0 0 x
    inner_first signal bit x h =
        passes_at signal bit x
        (inner_low wide x coin (omega arith) small (omega arith))
        (read_low x (omega arith) ∙ omega arith)

    outer_between : (signal bit x : ℕ) → x < b
        → passes signal bit (a + x) ≡ passes_part signal bit 1 (a + ((q - 1) / 2 + 1)) x
    outer_between signal bit x h =
        passes_at signal bit (a + x)
        (outer wide (a + x) coin (omega arith) small (omega arith) (omega arith))
        (read_moved (a + x) (omega arith) (omega arith) ∙ omega arith)

    inner_last : (signal bit x : ℕ) → x < d
        → passes signal bit (a + (b + x)) ≡ passes_part signal bit 0 (a + b + 1) x
    inner_last signal bit x h =
        passes_at signal bit (a + (b + x))
        (inner_high wide (a + (b + x)) coin (omega arith) small (omega arith))
        (read_high (a + (b + x)) (omega arith) (omega arith) ∙ omega arith)

    key_count_by_parts : (signal bit : ℕ)
        → ding_count q coin signal bit
        ≡ count (passes_part signal bit 0 0) a
        + (count (passes_part signal bit 1 (a + ((q - 1) / 2 + 1))) b
        + count (passes_part signal bit 0 (a + b + 1)) d)
    key_count_by_parts signal bit =
        let beyond : ℕ → Bool = λ x. passes signal bit (a + x) in
        ap (count (passes signal bit)) whole
        ∙ count_parts (passes signal bit) _ beyond a (b + d) (inner_first signal bit) (λ x h. refl)
        ∙ ap (λ n. count (passes_part signal bit 0 0) a + n)
        (count_parts beyond _ _ b d (outer_between signal bit) (inner_last signal bit))

    balanced_inner : Balanced q coin 0
    balanced_inner =
        let zeros = key_count_by_parts 0 0 in
        let ones = key_count_by_parts 0 1 in
        let skipped = count_none b in
        let zeros-first = count_parity 0 0 a (lit< tt) in
        let ones-first = count_parity 0 1 a (lit< tt) in
        let zeros-last = count_parity (a + b + 1) 0 d (lit< tt) in
        let ones-last = count_parity (a + b + 1) 1 d (lit< tt) in
        (omega arith, omega arith)

    balanced_outer : Balanced q coin 1
    balanced_outer =
        let zeros = key_count_by_parts 1 0 in
        let ones = key_count_by_parts 1 1 in
        let skipped-first = count_none a in
        let skipped-last = count_none d in
        let zeros-between = count_parity (a + ((q - 1) / 2 + 1)) 0 b (lit< tt) in
        let ones-between = count_parity (a + ((q - 1) / 2 + 1)) 1 b (lit< tt) in
        (omega arith, omega arith)

  balanced_wide : 4 ≤ q → (coin signal : ℕ) → coin < 2 → signal < 2 → Balanced q coin signal
  balanced_wide wide coin signal small =
      let a : ℕ = q / 4 + coin + 1 in
      let b : ℕ = q - 2 * (q / 4) - 1 in
      let d : ℕ = q / 4 - coin in
      below_two (Balanced q coin)
      (balanced_inner wide coin a b d small refl (omega arith) (omega arith))
      (balanced_outer wide coin a b d small refl (omega arith) (omega arith))
      signal

balanced_three : (coin signal : ℕ) → coin < 2 → signal < 2 → Balanced 3 coin signal
balanced_three coin signal small h =
    below_two (λ c. Balanced 3 c signal)
    (below_two (Balanced 3 0) (lit≤ tt, lit≤ tt) (lit≤ tt, lit≤ tt) signal h)
    (below_two (Balanced 3 1) (lit≤ tt, lit≤ tt) (lit≤ tt, lit≤ tt) signal h)
    coin small

module _ (q : ℕ) (is : IsModulus q) where
  balanced : (coin signal : ℕ) → coin < 2 → signal < 2 → Balanced q coin signal
  balanced coin signal small h =
      ⊎_elim
      (λ narrow. let three : 3 ≡ q = omega arith in
      subst (λ n. Balanced n coin signal) three (balanced_three coin signal small h))
      (λ wide. balanced_wide q is wide coin signal small h)
      (cases_lt q 4)

  reads_within : (x coin : ℕ) (d : ℤ) → x < q → coin < 2 → MultipleWithin 2 (tolerance ding_numbers q) d
      → ding_read q (residue q (pos x +ℤ d)) (ding_signal q x coin) ≡ ding_read q x (ding_signal q x coin)
  reads_within x coin d h small within =
      let y : ℕ = residue q (pos x +ℤ d) in
      let k : y < q = residue_below q (pos x +ℤ d) (omega arith) in
      let near : Near q x (unsigned_abs d) y = residue_near q x d h (omega arith) in
      ⊎_elim
      (λ narrow. ap (λ z. ding_read q z (ding_signal q x coin))
      (near_itself q x (unsigned_abs d) y h k (omega arith) near))
      (λ wide. tolerant q is wide x coin h small y (unsigned_abs d) k within.multiple (omega arith) near)
      (cases_lt q 4)

  pub ding_reconciles : Reconciles ding_numbers ding_functions q
  ding_reconciles = record {
    signal_range = λ x coin h small. cond_both _ 0 1 (λ s. s < 2) (λ _. lit< tt) (λ _. lit< tt);
    bit_range = λ x coin h small. mod-lt _ (lit< tt);
    read_range = λ y signal h small. mod-lt _ (lit< tt);
    tolerance_below = omega arith;
    tolerance_least = omega arith;
    reads_within = reads_within;
    balanced = balanced;
  }

pub ding_sound : Sound ding_numbers ding_functions
ding_sound = record {
  small = search rules;
  at = λ q is eighth. ding_reconciles q is;
}
