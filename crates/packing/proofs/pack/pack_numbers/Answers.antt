use Rattle.std.proofs.Common.{◌≡◌, ◌∙◌, [], get_or, length, sym, ap, arith, rules}
use Rattle.packing.specs.Lengths.{packed_length}
use Rattle.packing.specs.Packing.{AllFit, packed}
use Rattle.std.proofs.lemmas.List.{places}
use Rattle.std.proofs.Math.Nat.{add-mul}
use Rattle.packing.proofs.Eights.{eight_fits, eight_inside, eights_more, rest_inside, rest_room, all_packed}
use Rattle.packing.proofs.pack.pack_numbers.Goals as goal

pub loop-i-preserved : goal.loop-i-preserved
loop-i-preserved c =
    let w = c.bits-size.result in
    let fit : AllFit w c.args.numbers.now = rw c.bits-size.ensures.value c.requires.fit in
    let long : length c.args.output.now ≡ packed_length (length c.args.numbers.now) w = rw c.bits-size.ensures.value c.requires.long in
    eights_more w c.args.numbers.now _ c.loop-i.i fit c.as_chunks.ensures.front (omega (arith, long))
    c.loop-i.output _ (omega (arith, long, add-mul c.loop-i.i 1 w, eight_inside w c.args.numbers.now _ c.loop-i.i fit c.as_chunks.ensures.front (omega (arith, long)) (length c.loop-i.output) (omega (arith, long)))) (c.pack_eight.ensures ∙ ap (λ b. packed b (get_or c.as_chunks.result.0.now c.loop-i.i [])) (sym c.bits-size.ensures.value)) c.loop-i.invariant

pub slice_bounds-pack_eight-count-2 : goal.slice_bounds-pack_eight-count-2
slice_bounds-pack_eight-count-2 c =
    let w = c.bits-size.result in
    let fit : AllFit w c.args.numbers.now = rw c.bits-size.ensures.value c.requires.fit in
    let long : length c.args.output.now ≡ packed_length (length c.args.numbers.now) w = rw c.bits-size.ensures.value c.requires.long in
    rest_inside w c.args.numbers.now c.as_chunks.result.1.now _ c.loop-i.output fit c.as_chunks.ensures.front_len c.as_chunks.ensures.back (omega (arith, long))

pub pack_eight-requires-2-clause-long : goal.pack_eight-requires-2-clause-long
pack_eight-requires-2-clause-long c =
    let w = c.bits-size.result in
    let fit : AllFit w c.args.numbers.now = rw c.bits-size.ensures.value c.requires.fit in
    let long : length c.args.output.now ≡ packed_length (length c.args.numbers.now) w = rw c.bits-size.ensures.value c.requires.long in
    let room = rest_room w c.args.numbers.now c.as_chunks.result.1.now _ c.loop-i.output fit c.as_chunks.ensures.front_len c.as_chunks.ensures.back (omega (arith, long)) in
    rw (sym c.bits-size.ensures.value) (search (rules, places))

pub returns : goal.returns
returns c =
    let w = c.bits-size.result in
    let fit : AllFit w c.args.numbers.now = rw c.bits-size.ensures.value c.requires.fit in
    let long : length c.args.output.now ≡ packed_length (length c.args.numbers.now) w = rw c.bits-size.ensures.value c.requires.long in
    all_packed w c.args.numbers.now c.as_chunks.result.1.now _ c.loop-i.output fit c.as_chunks.ensures.front_len c.as_chunks.ensures.back (omega (arith, long))
    c.loop-i.i _ (omega (arith, long)) (c.pack_eight-2.ensures ∙ ap (λ b. packed b c.as_chunks.result.1.now) (sym c.bits-size.ensures.value)) c.loop-i.invariant
    ∙ ap (λ b. packed b c.args.numbers.now) c.bits-size.ensures.value

pub slice_bounds-pack_eight-end-in-loop-i : goal.slice_bounds-pack_eight-end-in-loop-i
slice_bounds-pack_eight-end-in-loop-i c =
    let w = c.bits-size.result in
    let fit : AllFit w c.args.numbers.now = rw c.bits-size.ensures.value c.requires.fit in
    let long : length c.args.output.now ≡ packed_length (length c.args.numbers.now) w = rw c.bits-size.ensures.value c.requires.long in
    let inside = eight_inside w c.args.numbers.now _ c.loop-i.i fit c.as_chunks.ensures.front (omega (arith, long)) (length c.loop-i.output) (omega (arith, long)) in
    omega (arith, long, inside)

pub pack_eight-requires-clause-fit : goal.pack_eight-requires-clause-fit
pack_eight-requires-clause-fit c =
    let w = c.bits-size.result in
    let fit : AllFit w c.args.numbers.now = rw c.bits-size.ensures.value c.requires.fit in
    let long : length c.args.output.now ≡ packed_length (length c.args.numbers.now) w = rw c.bits-size.ensures.value c.requires.long in
    rw (sym c.bits-size.ensures.value) (
    eight_fits w c.args.numbers.now _ c.loop-i.i fit c.as_chunks.ensures.front (omega (arith, long)))

pub slice_bounds-pack_eight-start-2 : goal.slice_bounds-pack_eight-start-2
slice_bounds-pack_eight-start-2 c =
    let w = c.bits-size.result in
    let fit : AllFit w c.args.numbers.now = rw c.bits-size.ensures.value c.requires.fit in
    let long : length c.args.output.now ≡ packed_length (length c.args.numbers.now) w = rw c.bits-size.ensures.value c.requires.long in
    let inside = rest_inside w c.args.numbers.now c.as_chunks.result.1.now _ c.loop-i.output fit c.as_chunks.ensures.front_len c.as_chunks.ensures.back (omega (arith, long)) in
    omega (arith, long, inside)
