use Rattle.std.proofs.Common.{◌<◌, ◌^◌, ◌∙◌, ap, length, arith, rules}
use Rattle.std.proofs.lemmas.List.Elements.{All-same}
use Rattle.packing.specs.Packing.{number, packed}
use Rattle.packing.proofs.Digits.{digits_fit}
use Rattle.packing.proofs.Laws.{packs_what_was_unpacked}
use Rattle.packing.proofs.Splitting.{bytes_fit}
use Rattle.packing.proofs.width.Width.unpack.Goals as goal

pub returns-clause-packs_back : goal.returns-clause-packs_back
returns-clause-packs_back c = λ clear.
    ap (packed c.args.self) (search rules)
    ∙ packs_what_was_unpacked c.args.self (length c.args.numbers.now) c.args.bytes.now (bytes_fit _ (λ i. (c.type_inv.bytes i).fits)) (omega arith) clear

pub returns-clause-fit : goal.returns-clause-fit
returns-clause-fit c = All-same (λ x. x < 2 ^ c.args.self) _ _ (search rules) (digits_fit c.args.self (length c.args.numbers.now) (number 8 c.args.bytes.now))
