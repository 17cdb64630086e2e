use Rattle.cargo_toml_features.proofs.Cited.{length-map, rules}
use Rattle.cargo_toml_features.proofs.Placed.{held_at, held_missing}
use Rattle.cargo_toml_features.proofs.slots.Slots.get.Goals as goal

pub returns-in_err-place : goal.returns-in_err-place
returns-in_err-place g c = search (rules, held_missing)

pub returns : goal.returns
returns g c = search (rules, length-map, held_at)
