use Rattle.std.proofs.Common.{◌≡◌, None, replicate}
use Rattle.cargo_toml_features.proofs.places.empty_slots.Given as goal

abbrev pub invariant-loop : goal.invariant-loop
invariant-loop g l = record {
  values : l.values.items ≡ replicate l.counter None;
}
