use Rattle.cargo_toml_features.proofs.Cited.{ap, has_redundant, ◌∙◌}
use Rattle.cargo_toml_features.proofs.redundant.has_anyway.Goals as goal

pub returns-in-Some-get : goal.returns-in-Some-get
returns-in-Some-get c = λ es said.
    c.has.ensures ∙ ap (λ o. has_redundant o c.args.feature.now) c.in-Some-get.ensures ∙ said.listed c.in-Some.lists c.in-Some.is c.args.feature.now

pub returns-in-None : goal.returns-in-None
returns-in-None c = λ es said. ap (λ o. has_redundant o c.args.feature.now) c.in-None.ensures ∙ said.listed c.in-Some.lists c.in-Some.is c.args.feature.now
