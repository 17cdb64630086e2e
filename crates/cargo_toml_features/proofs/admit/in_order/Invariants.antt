use Rattle.cargo_toml_features.proofs.Listings.{IsPut}
use Rattle.cargo_toml_features.proofs.admit.in_order.Given as goal

abbrev pub invariant-loop-name : goal.invariant-loop-name
invariant-loop-name g l = IsPut l.table l.yielded l.sorted
