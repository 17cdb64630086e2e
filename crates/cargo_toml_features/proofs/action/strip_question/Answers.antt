use Rattle.cargo_toml_features.proofs.Cited.{codes, ends_text, ends_with, false, nat_eq, ◌≡◌}
use Rattle.cargo_toml_features.proofs.action.strip_question.Goals as goal

pub returns-in-None-clause-found : goal.returns-in-None-clause-found
unfolding lib.Utf8.encode
returns-in-None-clause-found c = ends_text false (codes "?") c.args.text.now c.in-None.ensures.cases

pub returns-in-None-clause-rest : goal.returns-in-None-clause-rest
unfolding lib.Utf8.encode
returns-in-None-clause-rest c =
    let e : false ≡ ends_with nat_eq c.args.text.now (codes "?") = ends_text false (codes "?") c.args.text.now c.in-None.ensures.cases in
    rw (← e)
