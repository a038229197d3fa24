-- A character is a digit if it is one of the sixteen.
use Rattle.std.proofs.lemmas.Bool.Decides.{Decides-eqb}
use Rattle.std.proofs.lemmas.List.Elements.{contains_decides, Decides-contains}
use Rattle.vectors.specs.Hexadecimal.{lower_hex_digits}
use Rattle.vectors.proofs.line.is_lower_hex_digit.Goals as goal

pub returns : goal.returns
returns c =
    let x = c.args.text.now in
    let b = c.contains.result in
    Decides-contains lower_hex_digits x b (contains_decides _ Decides-eqb lower_hex_digits x b c.contains.ensures.cases)
