use Rattle.std.proofs.Common.{◌∙◌}
use Rattle.cargo_toml_discovery.proofs.Placed.{inserted, has_this}
use Rattle.cargo_toml_discovery.proofs.found.add_path.Goals as goal

pub returns-in_ok-insert : goal.returns-in_ok-insert
returns-in_ok-insert c = record {
  ok = λ t.
      inserted c.as_str.result.now c.args.paths.now c.insert.new.self c.in_ok-insert.ensures.updates t
      ∙ has_this _ _ _ t _ c.in-Some.is c.as_str.ensures.value;
}
