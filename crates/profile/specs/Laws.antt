-- What a profile is: its numbers, its functions, and the laws that generic code may use.
use Rattle.std.specs.Prelude.{◌≡◌, ℕ, ◌+◌, ◌-◌, ◌*◌, ◌%◌, ◌^◌, ◌<◌, ◌≤◌, ◌&&◌, ◌⊎◌, ◌==◌}
use Rattle.std.specs.Prelude.{ℤ, pos, ◌+ℤ◌, ◌-ℤ◌, unsigned_abs}
use Rattle.ring.specs.Residues.{residue}
use Rattle.profile.specs.Counts.{count}
use Rattle.profile.specs.declared.numbers.Numbers.{Numbers}

pub record Functions : Type 0 where
  -- the rounded value of a residue
  pub round : ℕ → ℕ
  -- the integer that a rounded value stands for, before reduction modulo q
  pub recover : ℕ → ℕ
  -- the signal and the key bit of a residue and a coin
  pub signal : ℕ → ℕ → ℕ
  pub key_bit : ℕ → ℕ → ℕ
  -- the key bit that is read from a residue and a signal
  pub read : ℕ → ℕ → ℕ

pub record InRange (k : Numbers) : Type 0 where
  pub n_power : (m : ℕ) × (2 ≤ m) × (m ≤ 10) × (k.n ≡ 2 ^ m)
  pub q_odd : k.q % 2 ≡ 1
  pub q_below : k.q < 2 ^ 23
  pub w_least : 1 ≤ k.w
  pub w_most : k.w ≤ 16
  pub p_is : k.p ≡ 2 ^ k.w - 1
  pub whole_bytes : (k.n * k.w) % 8 ≡ 0
  pub e_least : 1 ≤ k.e
  pub l_least : 1 ≤ k.l
  pub r_below : k.r < k.q
  pub tau_below : k.tau < k.q
  pub step_is : (k.step ≡ 1) ⊎ (k.step ≡ 2)
  pub coins_least : 1 ≤ k.coins
  pub coins_most : k.coins ≤ 255
  pub width_least : 1 ≤ k.signal_width
  pub width_most : k.signal_width ≤ 8
  -- the bytes that stand for the numbers and the reconciler in a message's head
  pub numbers_byte_below : k.numbers_byte < 2 ^ 8
  pub reconciler_byte_below : k.reconciler_byte < 2 ^ 8

-- d is a multiple of step of size at most bound
pub record MultipleWithin (step bound : ℕ) (d : ℤ) : Type 0 where
  pub multiple : unsigned_abs d % step ≡ 0
  pub size : unsigned_abs d ≤ bound

-- how many residues below q a coin gives the signal v and this key bit
abbrev pub key_count : (signal key_bit : ℕ → ℕ → ℕ) → (q coin v bit : ℕ) → ℕ
key_count signal key_bit q coin v bit = count (λ x. (signal x coin == v) && key_bit x coin == bit) q

module _ (q coins : ℕ) (signal key_bit : ℕ → ℕ → ℕ) where
  -- what is read d away from x, with the signal of x, is the key bit of x, for each multiple d of step of
  -- size at most tau
  abbrev pub ReadsWithin : ℕ → ℕ → (ℕ → ℕ → ℕ) → Type 0
  ReadsWithin step tau read =
      (x coin : ℕ) (d : ℤ) → x < q → coin < coins → MultipleWithin step tau d
      → read (residue q (pos x +ℤ d)) (signal x coin) ≡ key_bit x coin

  -- for each coin and signal, the residues with key bit 0 and those with key bit 1 differ in number by at
  -- most one
  abbrev pub Balanced : ℕ → Type 0
  Balanced width =
      (coin v : ℕ) → coin < coins → v < 2 ^ width
      → (key_count signal key_bit q coin v 0 ≤ key_count signal key_bit q coin v 1 + 1)
      × (key_count signal key_bit q coin v 1 ≤ key_count signal key_bit q coin v 0 + 1)

pub record Lawful (k : Numbers) (f : Functions) : Type 0 where
  pub in_range : InRange k
  pub recover_range : (y : ℕ) → y ≤ k.p → f.recover y < 2 * k.q
  pub signal_range : (x coin : ℕ) → x < k.q → coin < k.coins → f.signal x coin < 2 ^ k.signal_width
  pub bit_range : (x coin : ℕ) → x < k.q → coin < k.coins → f.key_bit x coin < 2
  pub read_range : (y signal : ℕ) → y < k.q → signal < 2 ^ k.signal_width → f.read y signal < 2
  -- 1. rounding stays in 0 .. p, and moves a residue by a multiple of step of size at most r
  pub round_range : (x : ℕ) → x < k.q → f.round x ≤ k.p
  pub round_near : (x : ℕ) → x < k.q → MultipleWithin k.step k.r (pos (f.recover (f.round x)) -ℤ pos x)
  -- 2. differences up to tau are tolerated
  pub reads_within : ReadsWithin k.q k.coins f.signal f.key_bit k.step k.tau f.read
  -- 3. a signal tells nothing of the key bit, but for one residue
  pub balanced : Balanced k.q k.coins f.signal f.key_bit k.signal_width
  -- 4. what two products with errors and roundings can differ by is tolerated
  pub within_tolerance : 2 * k.l * (k.step * k.e + k.r) ≤ k.tau
