use Rattle.{std.proofs.Common.◌≡◌, std.proofs.Common.drop, cargo_toml_resolve.specs.Placed.AreHashed}
use Rattle.cargo_toml_resolve.proofs.kept.hashed_apart.Given as goal

abbrev pub invariant-loop-feature : goal.invariant-loop-feature
invariant-loop-feature g l = record {
  rest : l.feature-iterator.rest.items ≡ drop l.place l.fn.features.items;
  hashed : AreHashed l.fn.features.items l.walked l.place l.by_name l.hidden;
}
