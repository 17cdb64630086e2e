use Rattle.cargo_toml_discovery.proofs.Cited.{Some, ap, btree_map_updates_str, not, ◌∙◌}
use Rattle.cargo_toml_discovery.proofs.Placed.{waits-step}
use Rattle.cargo_toml_discovery.proofs.found.wait.Goals as goal

pub returns-in_ok-insert : goal.returns-in_ok-insert
returns-in_ok-insert c = record {
  ok = λ n.
      let bs = c.as_str.result.now in
      waits-step c.args.product c.in-Some.name bs n _ _ (c.is_none.ensures ∙ ap not c.if-is_none.true) c.in-Some.is c.as_str.ensures.value
      (btree_map_updates_str bs c.args.map.now c.insert.new.self (Some c.args.product) c.in_ok-insert.ensures.updates n);
}
