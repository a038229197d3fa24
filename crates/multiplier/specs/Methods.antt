-- What a method of multiplication is to write.
use Rattle.std.specs.Prelude.{ℕ, List, length}
use Rattle.element.specs.Products.{product}
use Rattle.multiplier.specs.Sums.{coefficient_mod, sum_of_rows}
use Rattle.multiplier.specs.declared.factors.Factors.{Factors}
use Rattle.multiplier.specs.declared.rows.Rows.{Rows}

-- how many coefficients each of the two lists has
abbrev pub size_of : Factors → ℕ
size_of factors = length factors.left.now

-- the product of the two lists
abbrev pub product_of : Factors → List ℕ
product_of factors = product (size_of factors) factors.modulus factors.left.now factors.right.now

-- its coefficient k
abbrev pub coefficient_of : Factors → ℕ → ℕ
coefficient_of factors k =
    coefficient_mod (size_of factors) factors.modulus factors.left.now factors.right.now k

-- what all the rows add up to in the coefficient k
abbrev pub row_sum : Rows → ℕ → ℕ
row_sum rows k = sum_of_rows rows.left.now rows.words.now (length rows.left.now) k
