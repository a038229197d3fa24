-- Numbers by their digits of w bits: what digits stand for, part by part, and which digits a number has.
use Rattle.std.proofs.Common.{◌≡◌, ℕ, zero, suc, ◌+◌, ◌*◌, ◌/◌, ◌%◌, ◌^◌, ◌<◌, ◌≤◌, List, [], ◌∷◌, ◌++◌, length, sym, refl, ap, ◌∙◌, arith}
use Rattle.std.proofs.Math.Nat.{mul-add, mul_assoc, mul_comm, mod-eq_of_lt, div-eq_of_lt, div-one, zero-mul, mul-le-mul_left, add-mul-mod_self_left, add-mul-div_left}
use Rattle.std.proofs.lemmas.List.Elements.{All-nil, All-cons, All-head, All-tail}
use Rattle.std.proofs.lemmas.Nat.{pow_pos, pow-add, mod_below, shr-shr, shr_split, div_below}
use Rattle.packing.specs.Packing.{number, digits, AllFit}

-- the worth of one digit more
pub worth : (w many : ℕ) → 2 ^ (suc many * w) ≡ 2 ^ w * 2 ^ (many * w)
worth w many = ap (λ e. 2 ^ e) (omega arith) ∙ pow-add 2 w (many * w)

-- and that of none
pub none : (w : ℕ) → 2 ^ (0 * w) ≡ 1
none w = ap (λ e. 2 ^ e) (zero-mul w)

pub length-digits : (w many x : ℕ) → length (digits w many x) ≡ many
length-digits w zero x = refl
length-digits w (suc many) x = ap suc (length-digits w many (x / 2 ^ w))

pub digits_fit : (w many x : ℕ) → AllFit w (digits w many x)
digits_fit w zero x = All-nil (λ d. d < 2 ^ w)
digits_fit w (suc many) x =
    All-cons (λ d. d < 2 ^ w) (x % 2 ^ w) (digits w many (x / 2 ^ w)) (mod_below x (2 ^ w) (pow_pos w)) (digits_fit w many (x / 2 ^ w))

pub number_below : (w : ℕ) (xs : List ℕ) → AllFit w xs → number w xs < 2 ^ (length xs * w)
number_below w [] fit = omega (arith, none w)
number_below w (x ∷ xs) fit =
    let N = number w xs in
    let first : x < 2 ^ w = All-head (λ d. d < 2 ^ w) x xs fit in
    let rest : N < 2 ^ (length xs * w) = number_below w xs (All-tail (λ d. d < 2 ^ w) x xs fit) in
    let room : 2 ^ w * (N + 1) ≤ 2 ^ w * 2 ^ (length xs * w) = mul-le-mul_left (2 ^ w) (omega arith) in
    omega (arith, first, room, mul-add (2 ^ w) N 1, worth w (length xs))

pub number_append : (w : ℕ) (xs ys : List ℕ) → number w (xs ++ ys) ≡ number w xs + 2 ^ (length xs * w) * number w ys
number_append w [] ys = omega (arith, ap (λ b. b * number w ys) (none w))
number_append w (x ∷ xs) ys =
    let P = 2 ^ (length xs * w) in
    let more : 2 ^ w * (number w xs + P * number w ys) ≡ 2 ^ w * number w xs + 2 ^ w * (P * number w ys) = mul-add (2 ^ w) (number w xs) (P * number w ys) in
    let moved : 2 ^ (suc (length xs) * w) * number w ys ≡ 2 ^ w * (P * number w ys) = ap (λ b. b * number w ys) (worth w (length xs)) ∙ mul_assoc (2 ^ w) P (number w ys) in
    let rest : 2 ^ w * number w (xs ++ ys) ≡ 2 ^ w * (number w xs + P * number w ys) = ap (λ m. 2 ^ w * m) (number_append w xs ys) in
    omega (arith, more, moved, rest)

pub digits_append : (w m k x : ℕ) → digits w (m + k) x ≡ digits w m x ++ digits w k (x / 2 ^ (m * w))
digits_append w zero k x =
    let same : zero + k ≡ k = omega arith in
    ap (λ c. digits w c x) same ∙ ap (digits w k) (sym (div-one x) ∙ ap (λ b. x / b) (sym (none w)))
digits_append w (suc m) k x =
    let above : x / 2 ^ w / 2 ^ (m * w) ≡ x / 2 ^ (suc m * w) = shr-shr x w (m * w) ∙ ap (λ e. x / 2 ^ e) (omega arith) in
    let next : suc m + k ≡ suc (m + k) = omega arith in
    ap (λ c. digits w c x) next
    ∙ ap (λ ds. x % 2 ^ w ∷ ds) (digits_append w m k (x / 2 ^ w) ∙ ap (λ z. digits w m (x / 2 ^ w) ++ digits w k z) above)

-- what comes above so many digits does not change them
pub digits_below : (w many x y : ℕ) → digits w many (x + 2 ^ (many * w) * y) ≡ digits w many x
digits_below w zero x y = refl
digits_below w (suc many) x y =
    let B = 2 ^ w in
    let P = 2 ^ (many * w) in
    let moved : 2 ^ (suc many * w) * y ≡ B * (P * y) = ap (λ b. b * y) (worth w many) ∙ mul_assoc B P y in
    let low : (x + B * (P * y)) % B ≡ x % B = add-mul-mod_self_left x B (P * y) in
    let high : (x + B * (P * y)) / B ≡ x / B + P * y = add-mul-div_left x (P * y) (pow_pos w) in
    ap (λ z. digits w (suc many) (x + z)) moved
    ∙ (λ i. low i ∷ digits w many (high i))
    ∙ ap (λ ds. x % B ∷ ds) (digits_below w many (x / B) y)

pub digits_number : (w : ℕ) (xs : List ℕ) → AllFit w xs → digits w (length xs) (number w xs) ≡ xs
digits_number w [] fit = refl
digits_number w (x ∷ xs) fit =
    let B = 2 ^ w in
    let N = number w xs in
    let first : x < B = All-head (λ d. d < 2 ^ w) x xs fit in
    let low : (x + B * N) % B ≡ x = add-mul-mod_self_left x B N ∙ mod-eq_of_lt first in
    let high : (x + B * N) / B ≡ N = add-mul-div_left x N (pow_pos w) ∙ ap (λ z. z + N) (div-eq_of_lt first) ∙ omega arith in
    (λ i. low i ∷ digits w (length xs) (high i)) ∙ ap (λ ds. x ∷ ds) (digits_number w xs (All-tail (λ d. d < 2 ^ w) x xs fit))

pub number_digits : (w many x : ℕ) → x < 2 ^ (many * w) → number w (digits w many x) ≡ x
number_digits w zero x below = omega (arith, none w)
number_digits w (suc many) x below =
    let rest : x / 2 ^ w < 2 ^ (many * w) = div_below x (2 ^ w) (2 ^ (many * w)) (pow_pos w) (omega (arith, worth w many, mul_comm (2 ^ w) (2 ^ (many * w)))) in
    let same : 2 ^ w * number w (digits w many (x / 2 ^ w)) ≡ 2 ^ w * (x / 2 ^ w) = ap (λ m. 2 ^ w * m) (number_digits w many (x / 2 ^ w) rest) in
    omega (arith, same, shr_split x w, mul_comm (2 ^ w) (x / 2 ^ w))
