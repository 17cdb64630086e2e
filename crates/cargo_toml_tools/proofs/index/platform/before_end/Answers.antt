use Rattle.std.proofs.Common.{◌≡◌, ap, codes, false, if◌then◌else◌, length, None, Some, take, ◌-◌, nat_eq}
use Rattle.std.proofs.lemmas.Str.Pattern.{ends_text}
use Rattle.std.specs.List.{ends_with}
use Rattle.cargo_toml_tools.proofs.index.platform.before_end.Goals as goal

pub returns-in-None : goal.returns-in-None
returns-in-None c =
    let e : false ≡ ends_with nat_eq c.args.text.now (codes ")") = ends_text false (codes ")") c.args.text.now c.in-None.ensures.cases in
    rw (← e)
