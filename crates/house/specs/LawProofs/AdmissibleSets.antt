-- The three number sets are admissible. Their degrees are 2^2, 2^9 and 2^8, and the rest is computed.
use Rattle.std.specs.Prelude.{◌≡◌, ℕ, ◌^◌, ◌≤◌, refl}
use Rattle.std.proofs.Common.{rules, lit≤}
use Rattle.house.specs.NumberSets.{Admissible, sizes_t, sizes_s, sizes_w}

pub admissible_t : Admissible sizes_t
admissible_t =
    let power : (m : ℕ) × (2 ≤ m) × (m ≤ 10) × (2 ^ 2 ≡ 2 ^ m) = (2, lit≤ tt, lit≤ tt, refl) in
    search rules

pub admissible_s : Admissible sizes_s
admissible_s =
    let power : (m : ℕ) × (2 ≤ m) × (m ≤ 10) × (2 ^ 9 ≡ 2 ^ m) = (9, lit≤ tt, lit≤ tt, refl) in
    search rules

pub admissible_w : Admissible sizes_w
admissible_w =
    let power : (m : ℕ) × (2 ≤ m) × (m ≤ 10) × (2 ^ 8 ≡ 2 ^ m) = (8, lit≤ tt, lit≤ tt, refl) in
    search rules
