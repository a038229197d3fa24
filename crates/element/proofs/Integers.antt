-- The laws of the product of integers.
use Rattle.std.proofs.Common.{◌≡◌, zero, suc, ◌+◌, ◌≤◌, ℤ, pos, negsuc, ◌+ℤ◌, ◌-ℤ◌, ◌*ℤ◌, neg_ℤ, nat_abs, sym, refl, ap, ◌∙◌, arith}
use lib.IntN.{ℤ_ind, +ℤ_one, -ℤ_one, +ℤ_idl, +ℤ_invl, zero-*ℤ, suc_ℤ-*ℤ, pred_ℤ-*ℤ, *ℤ_comm}
use Rattle.std.proofs.lemmas.Int.{ints}

one_more : (a b : ℤ) → (a +ℤ pos 1) *ℤ b ≡ a *ℤ b +ℤ b
one_more a b = ap (λ x. x *ℤ b) (+ℤ_one a) ∙ suc_ℤ-*ℤ a b

one_less : (a b : ℤ) → (a +ℤ negsuc 0) *ℤ b ≡ a *ℤ b -ℤ b
one_less a b = ap (λ x. x *ℤ b) (-ℤ_one a) ∙ pred_ℤ-*ℤ a b

-- an integer taken a unit at a time
by_units : (P : ℤ → Type 0) → P (pos 0) → ((a : ℤ) → P a → P (a +ℤ pos 1)) → ((a : ℤ) → P a → P (a +ℤ negsuc 0)) → (a : ℤ) → P a
by_units P none more less = ℤ_ind P none (λ n. more (pos n)) (λ n. less (neg_ℤ (pos n)))

pub times_add_left : (a b c : ℤ) → (a +ℤ b) *ℤ c ≡ a *ℤ c +ℤ b *ℤ c
times_add_left a b c =
    by_units (λ x. (x +ℤ b) *ℤ c ≡ x *ℤ c +ℤ b *ℤ c)
    (ap (λ x. x *ℤ c) (+ℤ_idl b) ∙ sym (ap (λ x. x +ℤ b *ℤ c) (zero-*ℤ c) ∙ +ℤ_idl (b *ℤ c)))
    (λ x e.
    let moved : x +ℤ pos 1 +ℤ b ≡ x +ℤ b +ℤ pos 1 = omega (arith, ints) in
    ap (λ y. y *ℤ c) moved ∙ one_more (x +ℤ b) c ∙ ap (λ y. y +ℤ c) e ∙ regroup (x *ℤ c) (b *ℤ c) c
    ∙ ap (λ y. y +ℤ b *ℤ c) (sym (one_more x c)))
    (λ x e.
    let moved : x +ℤ negsuc 0 +ℤ b ≡ x +ℤ b +ℤ negsuc 0 = omega (arith, ints) in
    ap (λ y. y *ℤ c) moved ∙ one_less (x +ℤ b) c ∙ ap (λ y. y -ℤ c) e ∙ regroup (x *ℤ c) (b *ℤ c) (neg_ℤ c)
    ∙ ap (λ y. y +ℤ b *ℤ c) (sym (one_less x c)))
    a
  where
    regroup : (x y z : ℤ) → x +ℤ y +ℤ z ≡ x +ℤ z +ℤ y
    regroup x y z = omega (arith, ints)

pub times_add_right : (a b c : ℤ) → a *ℤ (b +ℤ c) ≡ a *ℤ b +ℤ a *ℤ c
times_add_right a b c = *ℤ_comm a (b +ℤ c) ∙ times_add_left b c a ∙ (λ i. *ℤ_comm b a i +ℤ *ℤ_comm c a i)

opposite : (x y : ℤ) → x +ℤ y ≡ pos 0 → x ≡ neg_ℤ y
opposite x y e = omega (arith, ints)

pub times_neg_left : (a b : ℤ) → neg_ℤ a *ℤ b ≡ neg_ℤ (a *ℤ b)
times_neg_left a b =
    opposite (neg_ℤ a *ℤ b) (a *ℤ b) (sym (times_add_left (neg_ℤ a) a b) ∙ ap (λ x. x *ℤ b) (+ℤ_invl a) ∙ zero-*ℤ b)

pub times_neg_right : (a b : ℤ) → a *ℤ neg_ℤ b ≡ neg_ℤ (a *ℤ b)
times_neg_right a b = *ℤ_comm a (neg_ℤ b) ∙ times_neg_left b a ∙ ap neg_ℤ (*ℤ_comm b a)

pub times_assoc : (a b c : ℤ) → a *ℤ b *ℤ c ≡ a *ℤ (b *ℤ c)
times_assoc a b c =
    by_units (λ x. x *ℤ b *ℤ c ≡ x *ℤ (b *ℤ c))
    (ap (λ x. x *ℤ c) (zero-*ℤ b) ∙ zero-*ℤ c ∙ sym (zero-*ℤ (b *ℤ c)))
    (λ x e.
    ap (λ y. y *ℤ c) (one_more x b) ∙ times_add_left (x *ℤ b) b c ∙ ap (λ y. y +ℤ b *ℤ c) e ∙ sym (one_more x (b *ℤ c)))
    (λ x e.
    ap (λ y. y *ℤ c) (one_less x b) ∙ times_add_left (x *ℤ b) (neg_ℤ b) c ∙ (λ i. e i +ℤ times_neg_left b c i)
    ∙ sym (one_less x (b *ℤ c)))
    a

pub one_times : (a : ℤ) → pos 1 *ℤ a ≡ a
one_times (pos a) = omega (arith, ints)
one_times (negsuc a) = omega (arith, ints)

-- the order of two factors is exchanged
pub times_exchange : (a b c : ℤ) → a *ℤ (b *ℤ c) ≡ b *ℤ (a *ℤ c)
times_exchange a b c = sym (times_assoc a b c) ∙ ap (λ x. x *ℤ c) (*ℤ_comm a b) ∙ times_assoc b a c

pub nat_abs_add : (a b : ℤ) → nat_abs (a +ℤ b) ≤ nat_abs a + nat_abs b
nat_abs_add (pos a) (pos b) = omega (arith, ints)
nat_abs_add (pos a) (negsuc b) = omega (arith, ints)
nat_abs_add (negsuc a) (pos b) = omega (arith, ints)
nat_abs_add (negsuc a) (negsuc b) = omega (arith, ints)

pub nat_abs_neg : (a : ℤ) → nat_abs (neg_ℤ a) ≡ nat_abs a
nat_abs_neg (pos zero) = refl
nat_abs_neg (pos (suc a)) = refl
nat_abs_neg (negsuc a) = refl
