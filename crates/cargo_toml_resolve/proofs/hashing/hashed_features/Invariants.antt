use Rattle.cargo_toml_resolve.proofs.Cited.{AreInOrder, Text, feature_at, option_or, value_at, ◌≡◌}
use Rattle.cargo_toml_resolve.proofs.hashing.hashed_features.Given as goal

abbrev pub invariant-loop-feature : goal.invariant-loop-feature
invariant-loop-feature g l = record {
  in_order : AreInOrder l.feature-iterator.rest.items;
  held : (f : Text) → option_or (feature_at l.feature-iterator.rest.items f) (value_at l.by_name f) ≡ feature_at l.fn.features.items f;
}
