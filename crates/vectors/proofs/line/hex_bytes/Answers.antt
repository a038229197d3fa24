-- Where no half of a byte is left over, all of the text was looked at.
use Rattle.std.proofs.Common.{◌≡◌, ◌*◌, ◌/◌, ◌≤◌, length, All, Contains, subst, ◌∙◌, rules, true}
use Rattle.std.proofs.lemmas.List.{take_all}
use Rattle.vectors.specs.Hexadecimal.{lower_hex_digits}
use Rattle.vectors.proofs.line.hex_bytes.Goals as goal

pub returns-clause-lower_case : goal.returns-clause-lower_case
returns-clause-lower_case c text_is =
    let text = c.args.text.now in
    let le : length c.as_bytes.result.now ≤ length text / 2 * 2 = search rules in
    let whole : c.split_at.result.0.now ≡ text = c.split_at.ensures.front ∙ take_all _ _ le ∙ c.as_bytes.ensures.value in
    let passed : c.are_lower_hex_digits.result ≡ true = search rules in
    subst (All (Contains lower_hex_digits)) whole (c.are_lower_hex_digits.ensures.0 passed)
