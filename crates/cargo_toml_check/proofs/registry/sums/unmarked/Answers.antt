use Rattle.std.proofs.Common.{None, ap, lit<, refl, ◌∙◌}
use Rattle.std.proofs.lemmas.Str.Pattern.{strip_prefix_char}
use Rattle.cargo_toml_check.proofs.Joins.{unmarked-rest}
use Rattle.cargo_toml_check.proofs.registry.sums.unmarked.Goals as goal

pub returns-in-None : goal.returns-in-None
returns-in-None c =
    let path = c.args.path.now in
    let r = c.strip_prefix-in-None.result in
    let e = ap (λ x. x.now) c.unwrap_or.ensures in
    e ∙ unmarked-rest path r c.args.path (strip_prefix_char 32 path None c.in-None.ensures.cases (lit< tt)) (strip_prefix_char 42 path r c.strip_prefix-in-None.ensures.cases (lit< tt)) refl
