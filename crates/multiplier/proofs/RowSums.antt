-- A row: the words from n - i + start on.
use Rattle.std.proofs.Common.{◌≡◌, ℕ, ◌+◌, ◌-◌, ◌*◌, ◌^◌, ◌<◌, ◌≤◌, List, length, get_or, take, drop, sym, ap, ◌∙◌, add_assoc, arith}
use Rattle.std.proofs.lemmas.List.{get_or-take, get_or-drop}
use Rattle.multiplier.specs.Sums.{AreRows, sum_of_rows}
use Rattle.multiplier.proofs.NaturalSums.{nat_sum_none, nat_sum_more, products_fit}

-- the part of the words that the left coefficient i multiplies
abbrev pub row : (left words : List ℕ) (start many i : ℕ) → List ℕ
row left words start many i = take (length left - i + start + many - (length left - i + start)) (drop (length left - i + start) words)

module _ (left words : List ℕ) (start many : ℕ) (rows : AreRows left words) (inside : start + many ≤ length left) where
  pub row_at : (i t : ℕ) → t < many → get_or (row left words start many i) t 0 ≡ get_or words (length left - i + (start + t)) 0
  row_at i t h =
      get_or-take (length left - i + start + many - (length left - i + start)) (drop (length left - i + start) words) t 0 (omega arith)
      ∙ get_or-drop (length left - i + start) words t 0
      ∙ ap (λ (j : ℕ). get_or words j 0) (add_assoc (length left - i) start t)

  pub row_sum_more : (i t : ℕ) → t < many → sum_of_rows left words (i + 1) (start + t) ≡ sum_of_rows left words i (start + t) + get_or left i 0 * get_or (row left words start many i) t 0
  row_sum_more i t h =
      nat_sum_more (λ j. get_or left j 0 * get_or words (length left - j + (start + t)) 0) i
      ∙ ap (λ (y : ℕ). sum_of_rows left words i (start + t) + get_or left i 0 * y) (sym (row_at i t h))

  -- fewer than n products and one more stay below 2^64
  pub row_sum_fits : (i t : ℕ) → i ≤ length left → t < many → sum_of_rows left words i (start + t) ≤ 2 ^ 56
  row_sum_fits i t most h =
      products_fit (λ j. get_or left j 0) (λ j. get_or words (length left - j + (start + t)) 0) i (omega arith)
      (λ j lt. rows.left_below j 0 (omega arith))
      (λ j lt. rows.words_below (length left - j + (start + t)) 0 (omega arith))

  pub one_more_fits : (i t : ℕ) → i < length left → t < many → sum_of_rows left words i (start + t) + get_or left i 0 * get_or (row left words start many i) t 0 < 2 ^ 64
  one_more_fits i t lt h = omega (arith, row_sum_more i t h, row_sum_fits (i + 1) t (omega arith) h)

pub ruleset row_steps = (nat_sum_none, one_more_fits, row_sum_more)
