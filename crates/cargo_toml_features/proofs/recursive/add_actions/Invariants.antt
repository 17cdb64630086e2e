use Rattle.cargo_toml_features.proofs.Cited.{HaveNoEmpty, Text, deref_pair, map, pairs_at, ◌++◌, ◌≡◌}
use Rattle.cargo_toml_features.proofs.Pending.{own_pairs}
use Rattle.cargo_toml_features.proofs.recursive.add_actions.Given as goal

abbrev pub invariant-loop-key : goal.invariant-loop-key
invariant-loop-key g l = record {
  pairs : (k : Text) → pairs_at l.dependencies k ≡ pairs_at l.initial.dependencies k ++ own_pairs l.feature.key.now k (map deref_pair l.yielded);
  no_empty : HaveNoEmpty l.initial.dependencies → HaveNoEmpty l.dependencies;
}
