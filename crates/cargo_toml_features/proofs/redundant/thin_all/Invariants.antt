use Rattle.cargo_toml_features.proofs.Cited.{Entry, IsSaidOf, List, Text, drop, map, said_by, take, thinned, ◌≡◌}
use Rattle.cargo_toml_features.proofs.redundant.thin_all.Given as goal

abbrev pub invariant-loop-item : goal.invariant-loop-item
invariant-loop-item l = record {
  rest : drop l.item-index l.items ≡ drop l.item-index l.initial.items;
  lost : (entries : Text → List Entry) → ((k : Text) → IsSaidOf l.dependencies l.lists k (entries k))
      → map said_by (take l.item-index l.items) ≡ map (thinned entries) (map said_by (take l.item-index l.initial.items));
}
