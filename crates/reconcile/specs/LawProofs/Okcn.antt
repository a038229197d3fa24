-- OKCN: the eight bands of 0 .. 2q - 1, what is read near one, and how many residues each has.
use Rattle.std.specs.Prelude.{◌≡◌, ℕ, zero, suc, ◌+◌, ◌-◌, ◌*◌, ◌/◌, ◌%◌, ◌<◌, ◌≤◌, ◌&&◌, ℤ, pos, negsuc}
use Rattle.std.specs.Prelude.{◌+ℤ◌, ◌-ℤ◌, ◌*ℤ◌, Ok, Err, Bool, Decides, Result, ◌==◌, unsigned_abs, refl}
use Rattle.std.proofs.Common.{◌∙◌, ap, add-mul, mul_assoc, mul_left_comm, mul-le-mul_right}
use Rattle.std.proofs.Common.{div-add-mod', div-mul-le_self, arith, rules}
use Rattle.std.proofs.Math.Nat.{div-eq_of_lt-le, lt-div-mul-add, add-mul-div_right, mul-add-div_right}
use Rattle.std.proofs.lemmas.Nat.{div_below, mod_below, div-mul-add}
use Rattle.std.proofs.lemmas.Int.{ints, int_rem_euclid_is}
use Rattle.std.proofs.lemmas.Bool.{cond_below}
use Rattle.std.proofs.lemmas.Bool.Decides.{Decides-and, Decides-eqb, Decides-like}
use Rattle.std.specs.Int.{int_div_euclid}
use Rattle.ring.proofs.Residues.{residue_below}
use Rattle.ring.specs.Residues.{residue, IsModulus}
use Rattle.ring.specs.declared.fault.Fault.{Fault}
use Rattle.ring.specs.declared.fault.Fault.TheVariants.{OutOfRange, CoinOutOfRange}
use Rattle.profile.specs.Outcomes.{reconciled}
use Rattle.profile.specs.Laws.{key_count}
use Rattle.reconcile.specs.LawProofs.Counts.{count_interval}
use Rattle.reconcile.specs.Okcn.{okcn_signal, okcn_key_bit, okcn_read, okcn_functions, okcn_numbers}
use Rattle.reconcile.specs.Reconcilers.{Reconciles, Sound}

-- x + d, for a d of size at most bound, has the residue of an m that is as near to x + q
pub residue_shifted : (q x bound : ℕ) (d : ℤ) → 0 < q → bound < q → unsigned_abs d ≤ bound
    → (m : ℕ) × (residue q (pos x +ℤ d) ≡ m % q) × (m ≤ x + q + bound) × (x + q ≤ m + bound)
residue_shifted q x bound d positive less near =
    let m = unsigned_abs (pos x +ℤ d +ℤ pos q) in
    let sum : pos x +ℤ d +ℤ pos (1 * q) ≡ pos m = omega (arith, ints) in (
      m,
      ap unsigned_abs (int_rem_euclid_is (pos x +ℤ d) (pos q) q 1 m positive refl sum),
      omega (arith, ints),
      omega (arith, ints),
    )

-- the parity of the floor of z / n, from that of m / n, which is greater by 2 k
pub floor_parity : (z : ℤ) (n k m : ℕ) → 0 < n → z +ℤ pos (2 * k * n) ≡ pos m
    → residue 2 (int_div_euclid z (pos n)) ≡ m / n % 2
floor_parity (pos a) n k m h e =
    let is : m ≡ a + 2 * k * n = omega (arith, ints) in
    omega (arith, ap (λ i. i / n) is ∙ add-mul-div_right a (2 * k) h)
floor_parity (negsuc a) n k m h e =
    let is : m + a + 1 ≡ 2 * k * n = omega (arith, ints) in
    let u = a / n in
    let low : u < 2 * k = div_below a n (2 * k) h (omega arith) in
    let w = 2 * k - u - 1 in
    let parts : 2 * k ≡ w + u + 1 = omega arith in
    let turned : 2 * k * n ≡ w * n + u * n + n =
    ap (λ i. i * n) parts ∙ omega (arith, add-mul (w + u) 1 n, add-mul w u n) in
    let rest : a % n < n = mod_below a n h in
    let whole : m ≡ w * n + (n - 1 - a % n) = omega (arith, div-add-mod' a n) in
    omega (arith, ap (λ i. i / n) whole ∙ div-mul-add w n (n - 1 - a % n) (omega arith))

-- four times the number that the band v of the half b starts at
band_start : (q b v : ℕ) → (4 * b + v) * q ≡ 4 * (b * q) + v * q
band_start q b v = add-mul (4 * b) v q ∙ ap (λ n. n + v * q) (mul_assoc 4 b q)

module _ (q x coin : ℕ) (positive : 0 < q) where
  -- the number of the band, of the eight, that z = 2x + coin lies in
  pub band_number : 4 * (2 * x + coin) / q ≡ 4 * okcn_key_bit q x coin + okcn_signal q x coin
  band_number =
      let z = 2 * x + coin in
      let whole : 4 * z ≡ 4 * (z / q) * q + 4 * (z % q) =
      omega (arith, div-add-mod' z q, mul_assoc 4 (z / q) q) in
      ap (λ n. n / q) whole ∙ mul-add-div_right positive (4 * (z / q)) (4 * (z % q))

  pub signal_below : okcn_signal q x coin < 4
  signal_below =
      div_below (4 * ((2 * x + coin) % q)) q 4 positive (omega (arith, mod_below (2 * x + coin) q positive))

  pub key_bit_below : x < q → coin < 2 → okcn_key_bit q x coin < 2
  key_bit_below h l = div_below (2 * x + coin) q 2 positive (omega arith)

  -- z lies in the band of its key bit b and its signal v
  pub band_from_to : (b v : ℕ) → okcn_signal q x coin ≡ v → okcn_key_bit q x coin ≡ b
      → ((4 * b + v) * q ≤ 4 * (2 * x + coin)) × (4 * (2 * x + coin) < (4 * b + v) * q + q)
  band_from_to b v signal-is bit_is =
      let number : 4 * (2 * x + coin) / q ≡ 4 * b + v = omega (arith, band_number) in
      let at = ap (λ n. n * q) number in (
        omega (arith, div-mul-le_self (4 * (2 * x + coin)) q),
        omega (arith, lt-div-mul-add {a = 4 * (2 * x + coin)} positive),
      )

  -- and in no other
  pub band_at : (b v : ℕ) → v < 4 → (4 * b + v) * q ≤ 4 * (2 * x + coin)
      → 4 * (2 * x + coin) < (4 * b + v) * q + q
      → (okcn_signal q x coin ≡ v) × (okcn_key_bit q x coin ≡ b)
  band_at b v few from to =
      let number : 4 * (2 * x + coin) / q ≡ 4 * b + v =
      div-eq_of_lt-le q from (omega (arith, add-mul (4 * b + v) 1 q)) in
      omega (arith, band_number, signal_below)

  pub decides_band : (b v : ℕ) → v < 4
      → Decides (okcn_signal q x coin == v && okcn_key_bit q x coin == b)
      (((4 * b + v) * q ≤ 4 * (2 * x + coin)) × (4 * (2 * x + coin) < (4 * b + v) * q + q))
  decides_band b v few =
      Decides-like _ (λ is. band_from_to b v is.0 is.1) (λ is. band_at b v few is.0 is.1)
      (Decides-and _ _ (Decides-eqb (okcn_signal q x coin) v) (Decides-eqb (okcn_key_bit q x coin) b))

-- z = b q + rest, where rest lies in the band v of its half
pub reconciled_from : (q x coin b rest v : ℕ) → x < q → coin < 2 → b * q + rest ≡ 2 * x + coin
    → v < 4 → v * q ≤ 4 * rest → 4 * rest < v * q + q
    → Ok (v, b) ≡ reconciled q 2 (okcn_signal q) (okcn_key_bit q) x coin
reconciled_from q x coin b rest v h l z-is few from to =
    let start = band_start q b v in
    let at = band_at q x coin (omega arith) b v few (omega arith) (omega arith) in
    let is : ◌≡◌ {A = Result (ℕ × ℕ) Fault} (Ok (v, b))
    (Ok (okcn_signal q x coin, okcn_key_bit q x coin)) = cc in
    is ∙ cond_below coin 2 _ (Err (CoinOutOfRange 0)) l ∙ cond_below x q _ (Err (OutOfRange 0)) h

-- the product in what is read: 3 q is 2 v q more
pub product_read : (q v : ℕ) → v < 4 → pos q *ℤ (pos 3 -ℤ pos (2 * v)) +ℤ pos (2 * (v * q)) ≡ pos (3 * q)
product_read q zero h = omega (arith, ints)
product_read q (suc zero) h = omega (arith, ints)
product_read q (suc (suc zero)) h = omega (arith, ints)
product_read q (suc (suc (suc zero))) h = omega (arith, ints)
product_read q (suc (suc (suc (suc v)))) h = let no : ⊥ = omega arith in absurd no

-- what is read from the residue of m with the signal v, by m itself and with nothing negative
pub read_turned : (q m v : ℕ) → 0 < q → v < 4
    → okcn_read q (m % q) v ≡ (16 * m + 19 * q - 2 * (v * q)) / (8 * q) % 2
read_turned q m v positive few =
    let t = m / q in
    let product = product_read q v few in
    let most : v * q ≤ 3 * q = mul-le-mul_right q (omega arith) in
    let turns : 2 * (t + 1) * (8 * q) ≡ 16 * (t * q) + 16 * q =
    mul_assoc 2 (t + 1) (8 * q) ∙ omega (arith, add-mul t 1 (8 * q), mul_left_comm t 8 q) in
    floor_parity _ (8 * q) (t + 1) (16 * m + 19 * q - 2 * (v * q)) (omega arith)
    (omega (arith, ints, div-add-mod' m q))

module _ (q x coin : ℕ) (at_least : 3 ≤ q) (h : x < q) (l : coin < 2) where
  pub read_near : (d : ℤ) → unsigned_abs d ≤ (3 * q - 8) / 16
      → okcn_read q (residue q (pos x +ℤ d)) (okcn_signal q x coin) ≡ okcn_key_bit q x coin
  read_near d near =
      let positive : 0 < q = omega arith in
      let v = okcn_signal q x coin in
      let k = okcn_key_bit q x coin in
      let few : v < 4 = signal_below q x coin positive in
      let bit : k < 2 = key_bit_below q x coin positive h l in
      let moved = residue_shifted q x ((3 * q - 8) / 16) d positive (omega arith) near in
      let m = moved.0 in
      let band = band_from_to q x coin positive k v refl refl in
      let start = band_start q k v in
      let most : v * q ≤ 3 * q = mul-le-mul_right q (omega arith) in
      let floor : (k + 4) * (8 * q) ≡ 8 * (k * q) + 32 * q =
      omega (arith, add-mul k 4 (8 * q), mul_left_comm k 8 q) in
      let quotient : (16 * m + 19 * q - 2 * (v * q)) / (8 * q) ≡ k + 4 =
      div-eq_of_lt-le (8 * q) (omega arith) (omega (arith, add-mul (k + 4) 1 (8 * q))) in
      ap (λ y. okcn_read q y v) moved.1 ∙ read_turned q m v positive few
      ∙ ap (λ n. n % 2) quotient ∙ omega arith

module _ (q coin b v : ℕ) (positive : 0 < q) (l : coin < 2) (bit : b < 2) (few : v < 4) where
  -- the numbers 8 x + 4 coin in a band, which is q wide
  pub band_count : (q / 8 ≤ key_count (okcn_signal q) (okcn_key_bit q) q coin v b)
      × (key_count (okcn_signal q) (okcn_key_bit q) q coin v b ≤ q / 8 + 1)
  band_count =
      let start = (4 * b + v) * q in
      let low = (start + 7 - 4 * coin) / 8 in
      let high = (start + q + 7 - 4 * coin) / 8 in
      let inside : start ≤ 7 * q = mul-le-mul_right q (omega arith) in
      let passes : ℕ → Bool = λ x. okcn_signal q x coin == v && okcn_key_bit q x coin == b in
      let counted = count_interval passes low high (omega arith) q
      (λ x below. Decides-like _ (λ is. omega arith) (λ is. omega arith)
      (decides_band q x coin positive b v few)) in
      omega arith

pub okcn_reconciles : (q : ℕ) → IsModulus q → Reconciles okcn_numbers okcn_functions q
okcn_reconciles q is =
    let positive : 0 < q = omega arith in
    record {
      signal_range = λ x coin h l. signal_below q x coin positive;
      bit_range = λ x coin h l. key_bit_below q x coin positive h l;
      read_range = λ y signal h l. residue_below 2 _ (omega arith);
      tolerance_below = omega arith;
      tolerance_least = omega arith;
      reads_within = λ x coin d h l near. read_near q x coin is.at_least h l d near.size;
      balanced = λ coin signal l few.
          let lower = band_count q coin 0 signal positive l (omega arith) few in
          let upper = band_count q coin 1 signal positive l (omega arith) few in
          omega arith;
    }

pub okcn_sound : Sound okcn_numbers okcn_functions
okcn_sound = record {
  small = search rules;
  at = λ q is eighth. okcn_reconciles q is;
}
