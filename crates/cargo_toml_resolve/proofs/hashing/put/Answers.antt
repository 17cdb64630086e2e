use Rattle.{std.proofs.Common.arith, std.proofs.lemmas.Map.Text.hash_map_updates_str, cargo_toml_graph.proofs.Texts.bytes_eq_sym}
use Rattle.cargo_toml_resolve.proofs.hashing.put.Goals as goal

pub returns : goal.returns
returns g c = grind (arith, hash_map_updates_str, bytes_eq_sym, c.in_ok-insert.ensures.updates)
