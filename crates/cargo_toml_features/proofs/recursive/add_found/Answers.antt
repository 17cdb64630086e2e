use Rattle.std.proofs.Common.{◌∙◌, Some}
use Rattle.cargo_toml_features.proofs.Pending.{at_key, elsewhere}
use Rattle.cargo_toml_features.proofs.recursive.add_found.Goals as goal

pub returns-clause-puts : goal.returns-clause-puts
returns-clause-puts g c = record {
  here = at_key c.args.feature.now.key.now c.make_room.new.found c.insert.new.self (Some c.args.feature) c.in_ok-before.ensures.updates;
  others = λ x apart. elsewhere c.args.feature.now.key.now c.make_room.new.found c.insert.new.self (Some c.args.feature) c.in_ok-before.ensures.updates x apart ∙ c.in_ok-make_room.ensures x;
}
