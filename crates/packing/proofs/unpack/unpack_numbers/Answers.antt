use Rattle.std.proofs.Common.{◌≡◌, ◌≤◌, ◌+◌, ◌-◌, ◌*◌, ◌/◌, ◌∙◌, length, take, drop, sym, ap, arith, rules}
use Rattle.packing.specs.Lengths.{packed_length}
use Rattle.packing.specs.Packing.{unpacked}
use Rattle.std.proofs.lemmas.List.{length-take, places}
use Rattle.packing.proofs.Eights.{few_bytes}
use Rattle.packing.proofs.EightsBack.{length_of_eight, length_of_rest, eight_inside, eights_more, rest_inside, rest_room, all_unpacked}
use Rattle.packing.proofs.Splitting.{bytes_fit}
use Rattle.packing.proofs.unpack.unpack_numbers.Goals as goal

pub slice_bounds-unpack_eight-end : goal.slice_bounds-unpack_eight-end
slice_bounds-unpack_eight-end c =
    let w = c.bits-size.result in
    let long : length c.args.bytes.now ≡ packed_length (length c.args.numbers.now) w = rw c.bits-size.ensures.value c.requires.long in
    let inside = eight_inside w (length c.args.numbers.now) c.args.bytes.now c.loop-i.i (bytes_fit _ (λ i. (c.type_inv.bytes i).fits)) (omega (arith, long)) (omega arith) in
    omega (arith, long, inside)

pub loop-i-preserved : goal.loop-i-preserved
loop-i-preserved c =
    let w = c.bits-size.result in
    let long : length c.args.bytes.now ≡ packed_length (length c.args.numbers.now) w = rw c.bits-size.ensures.value c.requires.long in
    let within : 8 * c.loop-i.i + 8 ≤ length c.loop-i.numbers = omega (arith, c.loop-i.auto.numbers) in
    let eight : length (take (8 * (c.loop-i.i + 1) - 8 * c.loop-i.i) (drop (8 * c.loop-i.i) c.loop-i.numbers)) ≡ 8 = length_of_eight c.loop-i.i c.loop-i.numbers within in
    eights_more w (length c.args.numbers.now) c.args.bytes.now c.loop-i.i (bytes_fit _ (λ i. (c.type_inv.bytes i).fits)) (omega (arith, long)) (omega arith)
    c.loop-i.numbers _ _ eight (omega arith) (c.unpack_eight.ensures ∙ ap (λ b. unpacked b (length (take (8 * (c.loop-i.i + 1) - 8 * c.loop-i.i) (drop (8 * c.loop-i.i) c.loop-i.numbers))) (take ((c.loop-i.i + 1) * w - c.loop-i.i * w) (drop (c.loop-i.i * w) c.args.bytes.now))) (sym c.bits-size.ensures.value)) c.loop-i.invariant

pub slice_bounds-unpack_eight-count-2 : goal.slice_bounds-unpack_eight-count-2
slice_bounds-unpack_eight-count-2 c =
    let w = c.bits-size.result in
    let long : length c.args.bytes.now ≡ packed_length (length c.args.numbers.now) w = rw c.bits-size.ensures.value c.requires.long in
    rest_inside w (length c.args.numbers.now) c.loop-i.numbers c.args.bytes.now (length c.args.numbers.now / 8) (bytes_fit _ (λ i. (c.type_inv.bytes i).fits)) (omega (arith, long)) c.loop-i.auto.numbers (omega arith)

pub slice_bounds-unpack_eight-start-2 : goal.slice_bounds-unpack_eight-start-2
slice_bounds-unpack_eight-start-2 c =
    let w = c.bits-size.result in
    let long : length c.args.bytes.now ≡ packed_length (length c.args.numbers.now) w = rw c.bits-size.ensures.value c.requires.long in
    let inside = rest_inside w (length c.args.numbers.now) c.loop-i.numbers c.args.bytes.now (length c.args.numbers.now / 8) (bytes_fit _ (λ i. (c.type_inv.bytes i).fits)) (omega (arith, long)) c.loop-i.auto.numbers (omega arith) in
    omega (arith, long, inside)

pub unpack_eight-requires-2-clause-long : goal.unpack_eight-requires-2-clause-long
unpack_eight-requires-2-clause-long c =
    let w = c.bits-size.result in
    let long : length c.args.bytes.now ≡ packed_length (length c.args.numbers.now) w = rw c.bits-size.ensures.value c.requires.long in
    let room = rest_room w (length c.args.numbers.now) c.loop-i.numbers c.args.bytes.now (length c.args.numbers.now / 8) (bytes_fit _ (λ i. (c.type_inv.bytes i).fits)) (omega (arith, long)) c.loop-i.auto.numbers (omega arith) in
    rw (sym c.bits-size.ensures.value) (search (rules, places))

pub unpack_eight-requires-2-clause-short : goal.unpack_eight-requires-2-clause-short
unpack_eight-requires-2-clause-short c =
    let w = c.bits-size.result in
    let many = length c.loop-i.numbers - 8 * (length c.args.numbers.now / 8) in
    let long : length c.args.bytes.now ≡ packed_length (length c.args.numbers.now) w = rw c.bits-size.ensures.value c.requires.long in
    let room = rest_room w (length c.args.numbers.now) c.loop-i.numbers c.args.bytes.now (length c.args.numbers.now / 8) (bytes_fit _ (λ i. (c.type_inv.bytes i).fits)) (omega (arith, long)) c.loop-i.auto.numbers (omega (arith, long)) in
    let short = few_bytes many w (omega (arith, c.loop-i.auto.numbers)) c.bits-size.ensures.is_width.at_most in
    let took = length-take (length c.args.bytes.now - length c.args.numbers.now / 8 * w) (drop (length c.args.numbers.now / 8 * w) c.args.bytes.now) in
    omega (arith, room, short, took)

pub returns : goal.returns
returns c =
    let w = c.bits-size.result in
    let long : length c.args.bytes.now ≡ packed_length (length c.args.numbers.now) w = rw c.bits-size.ensures.value c.requires.long in
    let left : length (take (length c.loop-i.numbers - 8 * (length c.args.numbers.now / 8)) (drop (8 * (length c.args.numbers.now / 8)) c.loop-i.numbers)) ≡ length c.loop-i.numbers - 8 * (length c.args.numbers.now / 8) = length_of_rest (8 * (length c.args.numbers.now / 8)) c.loop-i.numbers in
    all_unpacked w (length c.args.numbers.now) c.loop-i.numbers c.args.bytes.now (length c.args.numbers.now / 8) (bytes_fit _ (λ i. (c.type_inv.bytes i).fits)) (omega (arith, long)) c.loop-i.auto.numbers (omega arith)
    c.loop-i.i _ _ (omega arith) left (c.unpack_eight-2.ensures ∙ ap (λ b. unpacked b (length (take (length c.loop-i.numbers - 8 * (length c.args.numbers.now / 8)) (drop (8 * (length c.args.numbers.now / 8)) c.loop-i.numbers))) (take (length c.args.bytes.now - length c.args.numbers.now / 8 * w) (drop (length c.args.numbers.now / 8 * w) c.args.bytes.now))) (sym c.bits-size.ensures.value)) c.loop-i.invariant
    ∙ ap (λ b. unpacked b (length c.args.numbers.now) c.args.bytes.now) c.bits-size.ensures.value
