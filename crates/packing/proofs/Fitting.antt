-- Whether each number of a list fits.
use Rattle.std.proofs.Common.{◌≡◌, ℕ, ◌+◌, ◌^◌, ◌<◌, ◌≤◌, ltb, List, length, get_or, ap, ◌∙◌, ⊎_elim, arith}
use lib.Bits.{bit_or}
use Rattle.std.specs.List.{AllWithin}
use Rattle.std.proofs.lemmas.List.{get_or_default}
use Rattle.std.proofs.lemmas.Nat.{le_or_l, le_or_r}
use Rattle.std.specs.Prelude.{All}
use Rattle.std.proofs.lemmas.Bool.{cases_lt}
use Rattle.std.proofs.lemmas.List.Sums.{prefix_len-le-length}
use Rattle.ring.specs.Elements.{first_not_below}
use Rattle.ring.proofs.Elements.{all_below, all_below_reaches, is_first_not_below}
use Rattle.packing.specs.Packing.{AllFit}

-- what the first place that does not fit says of the numbers
pub ruleset first_not_fitting = (all_below, is_first_not_below)

-- numbers that are all at most one that fits
pub all_before_first : (w : ℕ) (xs : List ℕ) (most : ℕ) → All (λ x. x ≤ most) xs → most < 2 ^ w → length xs ≡ first_not_below (2 ^ w) xs
all_before_first w xs most within fits =
    let fit : AllFit w xs = λ k d inside. omega (arith, within k d inside) in
    omega (arith, all_below_reaches (2 ^ w) xs fit, prefix_len-le-length (λ x. ltb x (2 ^ w)) xs)

-- the bits of numbers together are no less than any of them
pub none_within : (xs : List ℕ) (most : ℕ) → AllWithin (λ x. x ≤ most) xs 0 0
none_within xs most k d low high = absurd (omega arith)

pub one_more_within : (xs : List ℕ) (i all : ℕ) → i < length xs → AllWithin (λ x. x ≤ all) xs 0 i → AllWithin (λ x. x ≤ bit_or all (get_or xs i 0)) xs 0 (i + 1)
one_more_within xs i all inside before k d low high =
    ⊎_elim
    (λ (earlier : k < i). omega (arith, before k d low earlier, le_or_l all (get_or xs i 0)))
    (λ (later : i ≤ k).
    let same : k ≡ i = omega arith in
    let here : get_or xs k d ≡ get_or xs i 0 = ap (λ n. get_or xs n d) same ∙ get_or_default xs i d 0 inside in
    omega (arith, here, le_or_r all (get_or xs i 0)))
    (cases_lt k i)
