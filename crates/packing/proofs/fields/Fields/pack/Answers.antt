use Rattle.std.proofs.Common.{◌∙◌, ap, length, rules}
use Rattle.packing.specs.Packing.{unpacked}
use Rattle.packing.proofs.Laws.{unpacks_what_was_packed}
use Rattle.packing.proofs.fields.Fields.pack.Goals as goal

pub returns-clause-unpacks_back : goal.returns-clause-unpacks_back
returns-clause-unpacks_back c =
    ap (unpacked c.args.self.width (length c.args.self.numbers)) (search rules)
    ∙ unpacks_what_was_packed c.args.self.width c.args.self.numbers (search rules)
