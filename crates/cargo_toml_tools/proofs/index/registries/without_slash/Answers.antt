use Rattle.std.proofs.Common.{◌≡◌, codes, false, nat_eq}
use Rattle.std.proofs.lemmas.Str.Pattern.{ends_text}
use Rattle.std.specs.List.{ends_with}
use Rattle.cargo_toml_tools.proofs.index.registries.without_slash.Goals as goal

pub returns-in-None : goal.returns-in-None
returns-in-None c =
    let e : false ≡ ends_with nat_eq c.args.address.now (codes "/") = ends_text false (codes "/") c.args.address.now c.in-None.ensures.cases in
    rw (← e)
