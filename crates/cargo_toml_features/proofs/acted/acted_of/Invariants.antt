use Rattle.cargo_toml_features.proofs.Cited.{Text, acts_on, has_key, list_any, map, reserves, said_by, take, ◌≡◌}
use Rattle.cargo_toml_features.proofs.acted.acted_of.Given as goal

abbrev pub invariant-loop-item : goal.invariant-loop-item
invariant-loop-item l = record {
  keys : (k : Text) → has_key l.keys k ≡ list_any (acts_on k) (map said_by (take l.item-index l.items));
  reserved : (k : Text) → has_key l.reserved k ≡ list_any (reserves k) (map said_by (take l.item-index l.items));
}
