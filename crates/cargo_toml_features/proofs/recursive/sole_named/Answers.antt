use Rattle.cargo_toml_features.proofs.Pending.{sole_of, sole_looked_up}
use Rattle.cargo_toml_features.proofs.recursive.sole_named.Goals as goal

pub returns : goal.returns
returns g c = λ pending.
    sole_looked_up c.args.features.now c.args.feature.now pending c.in-Some.name.now (sole_of _ _ c.requires.sole c.in-Some.ensures.first) c.requires.keyed c.get.result c.get.ensures.value
