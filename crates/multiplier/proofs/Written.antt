-- A list that holds the product, coefficient by coefficient, and the words of a row sum.
use Rattle.std.proofs.Common.{◌≡◌, ℕ, ◌*◌, ◌%◌, ◌^◌, ◌<◌, List, ◌++◌, map, length, get_or, sym, ap, ◌∙◌, subst, arith}
use Rattle.std.proofs.lemmas.Nat.{mod_below}
use Rattle.std.proofs.lemmas.List.{ext_get_or, length-append, length-map}
use Rattle.std.proofs.lemmas.List.Elements.{All-append, All-map, All-weaker}
use Rattle.element.specs.Products.{product}
use Rattle.element.proofs.Shapes.{length_product, get_or_product, product_is_element as is_element}
use Rattle.ring.specs.Elements.{AllBelow, IsElement}
use Rattle.ring.specs.Residues.{IsModulus}
use Rattle.multiplier.specs.Sums.{AreFactors, AreRows, negated, coefficient_mod, sum_of_rows}
use Rattle.multiplier.proofs.Coefficients.{row_sum_is_coefficient}

pub written : (n q : ℕ) (left right output : List ℕ) → length output ≡ n → ((k : ℕ) → k < n → get_or output k 0 ≡ coefficient_mod n q left right k) → output ≡ product n q left right
written n q left right output long each =
    ext_get_or 0 output (product n q left right) (long ∙ sym (length_product n q left right))
    (λ k h. each k (omega arith) ∙ sym (get_or_product n q left right k 0 (omega arith)))

-- a list negated modulo q, and the list
words_below_q : (q : ℕ) (right : List ℕ) → 0 < q → AllBelow q right → AllBelow q (map (negated q) right ++ right)
words_below_q q right some below =
    let Below : ℕ → Type 0 = λ x. x < q in
    All-append Below (map (negated q) right) right (All-map Below (negated q) right (λ k d h. mod_below _ q some)) below

module _ (q : ℕ) (left right : List ℕ) (f : AreFactors q left right) where
  -- the words once they are written
  pub rows : (words : List ℕ) → words ≡ map (negated q) right ++ right → AreRows left words
  rows words words_are =
      let long : length words ≡ 2 * length left = ap length words_are ∙ simp (length-append, length-map) (omega (arith, f.long)) in
      let few = All-weaker (λ x. x < q) (λ x. x < 2 ^ 23) (λ x h. omega (arith, f.is_modulus.below)) in
      record {
        short = f.short;
        long = long;
        left_below = few left f.left_below;
        words_below = few words (subst (AllBelow q) (sym words_are) (words_below_q q right (omega (arith, f.is_modulus.at_least)) f.right_below));
      }

  -- the row sums modulo q are the product
  pub row_sums_are_product : (words result : List ℕ) → words ≡ map (negated q) right ++ right → length result ≡ length left → ((k : ℕ) → k < length left → get_or result k 0 ≡ sum_of_rows left words (length left) k % q) → result ≡ product (length left) q left right
  row_sums_are_product words result words_are long each =
      written (length left) q left right result long
      (λ k h. each k h ∙ ap (λ (ws : List ℕ). sum_of_rows left ws (length left) k % q) words_are ∙ row_sum_is_coefficient q left right k (omega (arith, f.is_modulus.at_least)) f.long h f.right_below)

-- where the product is written, there is an element
pub product_is_element : (n q : ℕ) → IsModulus q → (left right output : List ℕ) → output ≡ product n q left right → IsElement n q output
product_is_element n q is_modulus left right output is =
    subst (IsElement n q) (sym is) (is_element n q left right (omega (arith, is_modulus.at_least)))
