use Rattle.std.proofs.Common.{◌≡◌, ℕ, ◌*◌, ◌^◌, ◌<◌, ◌≤◌, ℤ, pos, ◌+ℤ◌, ◌-ℤ◌, ◌*ℤ◌, nat_abs, Ok, Err, ap, ◌∙◌, mul-le-mul_right, arith, w32, SFits, to_z, of_z}
use Rattle.std.proofs.lemmas.Int.{ints, to_z-of_z}
use Rattle.std.proofs.lemmas.Bool.{cond_below}
use Rattle.ring.specs.declared.fault.Fault.TheVariants.{OutOfRange}
use Rattle.reconcile.specs.Okcn.{okcn_read}
use Rattle.reconcile.specs.LawProofs.Okcn.{product_read}
use Rattle.reconcile.proofs.okcn.OkcnReconciler.read.Goals as goal

-- a number as 32 bits hold it
abbrev held : ℤ → ℤ
held z = to_z w32 (of_z w32 z)

module _ (q y v : ℕ) (below : q < 2 ^ 23) (h : y < q) (few : v < 4) where
  abbrev product : ℤ
  product = pos q *ℤ (pos 3 -ℤ pos (2 * v))

  product_size : (product +ℤ pos (2 * (v * q)) ≡ pos (3 * q)) × (v * q ≤ 3 * q)
  product_size = (product_read q v few, mul-le-mul_right q (omega arith))

  held_product : held (to_z w32 q *ℤ held (pos 3 -ℤ held (pos 2 *ℤ to_z w32 v))) ≡ product
  held_product =
      let left : to_z w32 q ≡ pos q = omega (arith, ints) in
      let right : held (pos 3 -ℤ held (pos 2 *ℤ to_z w32 v)) ≡ pos 3 -ℤ pos (2 * v) = omega (arith, ints) in
      let fits : SFits w32 product = omega (arith, ints, product_size) in
      let whole : held product ≡ product = to_z-of_z w32 product fits in
      cc

  held_sum : held (held (pos 16 *ℤ to_z w32 y) +ℤ held (to_z w32 q *ℤ held (pos 3 -ℤ held (pos 2 *ℤ to_z w32 v)))) ≡ pos (16 * y) +ℤ product
  held_sum = omega (arith, ints, product_size, held_product)

pub returns : goal.returns
returns c =
    let q : ℕ = c.value-q.result in
    let y = c.args.y in
    let signal = c.args.signal in
    let floor = c.div_euclid-floor.result in
    let rest = c.rem_euclid.result in
    let sum = held_sum q y signal (omega arith) (omega arith) (omega arith) in
    let divisor : held (pos 8 *ℤ to_z w32 q) ≡ pos (8 * q) = omega (arith, ints) in
    let floor-held : held floor ≡ floor = omega (arith, ints) in
    let rest-held : held rest ≡ rest = omega (arith, ints) in
    let is : nat_abs (held rest) ≡ okcn_read q y signal = cc (c.div_euclid-floor.ensures, c.rem_euclid.ensures.value) in
    rw (← c.value-q.ensures.value) (ap Ok is ∙ cond_below signal 4 _ (Err (OutOfRange 0)) (omega arith) ∙ cond_below y q _ (Err (OutOfRange 0)) (omega arith))
