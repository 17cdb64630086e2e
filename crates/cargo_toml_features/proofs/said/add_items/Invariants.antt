use Rattle.cargo_toml_features.proofs.Cited.{item_of, map, said_by, string_bytes, take, ◌++◌, ◌≡◌}
use Rattle.cargo_toml_features.proofs.said.add_items.Given as goal

abbrev pub invariant-loop-text : goal.invariant-loop-text
invariant-loop-text l = map said_by l.items.items ≡ map said_by l.initial.items.items ++ map item_of (map string_bytes (take l.text-index l.actions))
