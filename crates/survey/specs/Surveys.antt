-- What is measured of a profile by going through every residue.
use Rattle.std.specs.Prelude.{◌≡◌, ℕ, ◌+◌, ◌*◌, ◌^◌, ◌<◌, ◌≤◌, Bool, ◌&&◌, ◌==◌, nat_le, nat_lt}
use Rattle.std.specs.Prelude.{ℤ, pos, ◌-ℤ◌, ◌≤ℤ◌, Ok, Err, Result, if◌then◌else◌}
use Rattle.std.specs.Int.{int_min, int_max}
use Rattle.ring.specs.Faults.{checked}
use Rattle.ring.specs.declared.fault.Fault.{Fault}
use Rattle.ring.specs.declared.fault.Fault.TheVariants.{WrongLength, OutOfRange, SumTooLarge}
use Rattle.ring.specs.declared.fault.Fault.TheVariants.{CoinOutOfRange, SourceSpent}
use Rattle.profile.specs.Counts.{count}
use Rattle.profile.specs.Laws.{Functions, key_count}
use Rattle.profile.specs.declared.numbers.Numbers.{Numbers}
use Rattle.survey.specs.declared.rounding.RoundingSurvey.{RoundingSurvey}
use Rattle.survey.specs.declared.keys.KeyCounts.{KeyCounts}

-- recovered less original
abbrev pub distance : Functions → ℕ → ℤ
distance f x = pos (f.recover (f.round x)) -ℤ pos x

-- x lies midway between the value that it is rounded to and the next value of the same class
abbrev pub tie : Numbers → Functions → ℕ → Bool
tie k f x =
    nat_le (f.round x + k.step) k.p
    && f.recover (f.round x) + f.recover (f.round x + k.step) == 2 * x

-- m is one of d 0 .. d (n - 1), and stands before each of them in the order
pub record IsFirst (before : ℤ → ℤ → Type 0) (d : ℕ → ℤ) (n : ℕ) (m : ℤ) : Type 0 where
  pub bound : (x : ℕ) → x < n → before m (d x)
  pub reached : (x : ℕ) × (x < n) × (d x ≡ m)

abbrev pub IsLeast : (ℕ → ℤ) → ℕ → ℤ → Type 0
IsLeast d n m = IsFirst (λ a b. a ≤ℤ b) d n m

abbrev pub IsLargest : (ℕ → ℤ) → ℕ → ℤ → Type 0
IsLargest d n m = IsFirst (λ a b. b ≤ℤ a) d n m

-- what a survey of the rounding of 0 .. n - 1 found
pub record Surveyed (k : Numbers) (f : Functions) (n : ℕ) (s : RoundingSurvey) : Type 0 where
  pub least : IsLeast (distance f) n s.least
  pub largest : IsLargest (distance f) n s.largest
  pub ties : s.ties ≡ count (tie k f) n

-- a survey with one more residue, which is moved by d
abbrev pub widened : RoundingSurvey → ℤ → Bool → RoundingSurvey
widened s d tied = record {
  least = int_min s.least d;
  largest = int_max s.largest d;
  ties = s.ties + (if tied then 1 else 0);
}

-- a survey of all residues is never refused
abbrev pub RoundingMeans : Numbers → Functions → Result RoundingSurvey Fault → Type 0
RoundingMeans k f (Ok s) = Surveyed k f k.q s
RoundingMeans k f (Err fault) = ⊥

abbrev pub keys_outcome : Numbers → Functions → ℕ → ℕ → Result KeyCounts Fault
keys_outcome k f coin signal =
    checked (nat_lt signal (2 ^ k.signal_width)) (OutOfRange 0)
    (checked (nat_lt coin k.coins) (CoinOutOfRange 0)
    (Ok (record {
      zeros = key_count f.signal f.key_bit k.q coin signal 0;
      ones = key_count f.signal f.key_bit k.q coin signal 1;
    })))

-- what each outcome says of a coin and a signal: the signal first, then the coin
abbrev pub KeysMeans : Numbers → Functions → (coin signal : ℕ) → Result KeyCounts Fault → Type 0
KeysMeans k f coin signal (Ok counts) =
    (signal < 2 ^ k.signal_width)
    × (coin < k.coins)
    × (counts.zeros ≡ key_count f.signal f.key_bit k.q coin signal 0)
    × (counts.ones ≡ key_count f.signal f.key_bit k.q coin signal 1)
KeysMeans k f coin signal (Err (OutOfRange place)) = (2 ^ k.signal_width ≤ signal) × (place ≡ 0)
KeysMeans k f coin signal (Err (CoinOutOfRange place)) =
    (signal < 2 ^ k.signal_width) × (k.coins ≤ coin) × (place ≡ 0)
KeysMeans k f coin signal (Err (WrongLength place)) = ⊥
KeysMeans k f coin signal (Err (SumTooLarge place)) = ⊥
KeysMeans k f coin signal (Err (SourceSpent place)) = ⊥
