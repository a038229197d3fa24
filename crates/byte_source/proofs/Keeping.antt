-- The numbers that are kept: of no group, one group on, and where they fill a list.
use Rattle.std.proofs.Common.{◌≡◌, ℕ, ◌-◌, ◌%◌, ◌^◌, ◌<◌, ◌≤◌, cond, ltb, List, [], ◌∷◌, map, length, filter, refl, ap, ◌∙◌, ⊎_elim, arith}
use Rattle.std.proofs.lemmas.Bool.{cases_lt, cond-true, cond-false, lt-ltb, le-ltb}
use Rattle.byte_source.specs.Derivation.{bits, groups, candidates, kept, WholeGroup}
use Rattle.byte_source.specs.declared.sampler.Sampler.{Sampler}
use Rattle.byte_source.proofs.BitCounts.{bits_fit}
use Rattle.byte_source.proofs.Groups.{groups_none, groups_more}

pub bits_some : (q : ℕ) → 1 < q → 0 < bits (q - 1)
bits_some q h =
    ⊎_elim
    (λ some. some)
    (λ none.
    let no_bits : bits (q - 1) ≡ 0 = omega arith in
    absurd (omega (arith, bits_fit (q - 1), ap (λ b. 2 ^ b) no_bits)))
    (cases_lt 0 (bits (q - 1)))

module _ (s : Sampler) (bytes : List ℕ) where
  -- what is kept of a list of groups
  abbrev of_groups : List ℕ → List ℕ
  of_groups xs = filter (λ x. ltb x s.q) (map (λ x. x % 2 ^ s.bits) xs)

  kept_is : kept s.q bytes ≡ of_groups (groups s.bytes bytes)
  unfolding kept candidates
  kept_is = rw (s.size, s.width) refl

  pub kept_none : length bytes < s.bytes → kept s.q bytes ≡ []
  kept_none short = kept_is ∙ ap of_groups (groups_none s.bytes bytes short)

module _ (s : Sampler) (bytes : List ℕ) (number : ℕ) (rest : List ℕ) (group : WholeGroup s.bytes bytes number rest) where
  some : 0 < s.bytes
  some = omega (arith, s.size, s.width, bits_some s.q s.least)

  module _ (x : ℕ) (is : x ≡ number % 2 ^ s.bits) where
    kept_step : kept s.q bytes ≡ cond (ltb x s.q) (x ∷ kept s.q rest) (kept s.q rest)
    kept_step = rw (kept_is s bytes, kept_is s rest, is, group.value, group.after) (ap (of_groups s bytes) (groups_more s.bytes bytes some group.whole))

    pub kept_yes : x < s.q → kept s.q bytes ≡ x ∷ kept s.q rest
    kept_yes below = kept_step ∙ cond-true _ _ _ (lt-ltb x s.q below)

    pub kept_no : s.q ≤ x → kept s.q bytes ≡ kept s.q rest
    kept_no above = kept_step ∙ cond-false _ _ _ (le-ltb x s.q above)
