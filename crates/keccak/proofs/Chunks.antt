-- A list cut into chunks.
use Rattle.std.proofs.Common.{◌≡◌, ℕ, zero, suc, ◌+◌, ◌*◌, ◌<◌, ◌≤◌, List, [], ◌∷◌, ◌++◌, map, length, get_or, take, drop, sym, refl, ap, ◌∙◌, mul-zero, mul-suc, arith, length-append, length-drop}
use Rattle.std.specs.List.{range_with_len}
use Rattle.std.specs.Simd.{first_chunks}
use Rattle.std.proofs.lemmas.List.{take-append-le, drop-append-le, take_all, drop-drop}
use Rattle.std.proofs.lemmas.List.FromFn.{fill_by_all}

length_first_chunks : (n k : ℕ) (xs : List ℕ) → length (first_chunks n k xs) ≡ k
length_first_chunks n zero xs = refl
length_first_chunks n (suc k) xs = ap suc (length_first_chunks n k (drop n xs))

pub chunk_at : (n k i : ℕ) (xs : List ℕ) → i < k → get_or (first_chunks n k xs) i [] ≡ take n (drop (n * i) xs)
chunk_at n zero i xs below = absurd (omega arith)
chunk_at n (suc k) zero xs below = ap (λ j. take n (drop j xs)) (sym (mul-zero n))
chunk_at n (suc k) (suc i) xs below =
    let next : n + n * i ≡ n * suc i = omega (arith, mul-suc n i) in
    chunk_at n k i (drop n xs) (omega arith) ∙ ap (take n) (drop-drop (n * i) n xs) ∙ ap (λ j. take n (drop j xs)) next

pub chunks_by_place : (n k : ℕ) (xs : List ℕ) → first_chunks n k xs ≡ map (λ i. take n (drop (n * i) xs)) (range_with_len 0 k)
chunks_by_place n k xs = fill_by_all (λ i. take n (drop (n * i) xs)) (first_chunks n k xs) k [] (length_first_chunks n k xs) (λ i h. chunk_at n k i xs h)

-- what completes the rest to a chunk leaves the chunks before it as they are
pub chunks_completed : (n k : ℕ) (xs ys : List ℕ) → n * k ≤ length xs → length xs + length ys ≡ n * k + n → first_chunks n (suc k) (xs ++ ys) ≡ first_chunks n k xs ++ (drop (n * k) xs ++ ys) ∷ []
chunks_completed n zero xs ys within whole =
    ap (λ c. c ∷ []) (take_all n (xs ++ ys) (omega (arith, length-append xs ys, mul-zero n)) ∙ ap (λ j. drop j xs ++ ys) (sym (mul-zero n)))
chunks_completed n (suc k) xs ys within whole =
    let next : n + n * k ≡ n * suc k = omega (arith, mul-suc n k) in
    rw (take-append-le n xs ys (omega arith), drop-append-le n xs ys (omega arith))
    (ap (λ c. take n xs ∷ c) (chunks_completed n k (drop n xs) ys (omega (arith, length-drop n xs)) (omega (arith, length-drop n xs))
    ∙ ap (λ j. first_chunks n k (drop n xs) ++ (j ++ ys) ∷ []) (drop-drop (n * k) n xs ∙ ap (λ j. drop j xs) next)))
