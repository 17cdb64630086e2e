use Rattle.std.proofs.Common.{Some, string_bytes}
use Rattle.std.proofs.lemmas.Map.Text.{btree_map_updates_text}
use Rattle.cargo_toml_check.proofs.registry.joining.put_last.Goals as goal

pub returns-in-Ok : goal.returns-in-Ok
returns-in-Ok c = λ v. btree_map_updates_text (string_bytes c.args.version) c.args.found.now c.insert.new.self (Some c.args.all) c.in-Ok.ensures.updates v
