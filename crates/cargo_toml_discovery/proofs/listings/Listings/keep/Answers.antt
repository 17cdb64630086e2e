use Rattle.std.proofs.{Common.string_bytes, Common.Some, lemmas.Map.Text.btree_map_updates_text}
use Rattle.cargo_toml_discovery.proofs.Lookups.{answer_at-kept}
use Rattle.cargo_toml_discovery.proofs.listings.Listings.keep.Goals as goal

pub returns : goal.returns
returns c = record {
  ok = answer_at-kept c.args.self.now (record { names = c.insert.new.self }) (string_bytes c.in_ok-from_str.field-0) c.args.path.now c.args.names c.in_ok-from_str.ensures.ok
      (btree_map_updates_text (string_bytes c.in_ok-from_str.field-0) c.args.self.now.names c.insert.new.self (Some c.args.names) c.in_ok-insert.ensures.updates);
}
