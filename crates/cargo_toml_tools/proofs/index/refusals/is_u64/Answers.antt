use Rattle.std.proofs.Common.{◌∙◌, ap, sym}
use Rattle.std.specs.{Char.is_ascii_digit, List.list_all}
use Rattle.cargo_toml_tools.proofs.Numbers.{parsed}
use Rattle.cargo_toml_tools.proofs.index.refusals.is_u64.Goals as goal

pub returns-then-are_digits : goal.returns-then-are_digits
returns-then-are_digits c =
    c.is_ok.ensures.value ∙ parsed c.args.text.now c.parse.result c.parse.ensures.value.0 (ap (list_all is_ascii_digit) (sym c.as_bytes.ensures.value) ∙ sym c.are_digits.ensures ∙ c.if-are_digits.true)
