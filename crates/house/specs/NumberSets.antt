-- The three number sets, and what a number set owes.
use Rattle.std.specs.Prelude.{◌≡◌, ℕ, ◌+◌, ◌-◌, ◌*◌, ◌/◌, ◌%◌, ◌^◌, ◌<◌, ◌≤◌}
use Rattle.ring.specs.Residues.{IsModulus}
use Rattle.profile.specs.declared.bounds.Bounds.{Bounds}
use Rattle.house.specs.declared.number_set.Sizes.{Sizes}

pub record Admissible (s : Sizes) : Type 0 where
  pub n_power : (m : ℕ) × (2 ≤ m) × (m ≤ 10) × (s.n ≡ 2 ^ m)
  pub modulus : IsModulus s.q
  pub w_least : 1 ≤ s.w
  pub w_most : s.w ≤ 15
  pub p_is : s.p ≡ 2 ^ s.w - 1
  pub p_below : s.p < s.q
  pub whole_bytes : (s.n * s.w) % 8 ≡ 0
  pub e_least : 1 ≤ s.e
  pub l_least : 1 ≤ s.l
  pub byte_below : s.byte < 2 ^ 8
  -- two recovered values of one class are at most 2 rounding + 1 steps apart
  pub rounding_reaches : s.q ≤ s.p * (2 * s.rounding + 1)
  pub rounding_below : 2 * s.rounding < s.q
  -- an eighth of the circle holds what two products can differ by, for each unit of step
  pub within_eighth : 2 * s.l * (s.e + s.rounding) ≤ s.q / 8 - 1

-- what a secret of these sizes is held to
abbrev pub bounds_of_sizes : Sizes → Bounds
bounds_of_sizes s = record { n = s.n; e = s.e; l = s.l }

abbrev pub sizes_t : Sizes
sizes_t = record { n = 4; q = 257; p = 63; w = 6; e = 1; l = 4; rounding = 2; byte = 1 }

abbrev pub sizes_s : Sizes
sizes_s = record { n = 512; q = 12289; p = 4095; w = 12; e = 2; l = 191; rounding = 2; byte = 2 }

abbrev pub sizes_w : Sizes
sizes_w = record { n = 256; q = 8380417; p = 16383; w = 14; e = 7; l = 1792; rounding = 256; byte = 3 }
