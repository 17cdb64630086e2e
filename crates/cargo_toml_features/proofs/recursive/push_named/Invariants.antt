use Rattle.cargo_toml_features.proofs.Pending.{Pushes}
use Rattle.cargo_toml_features.proofs.recursive.push_named.Given as goal

abbrev pub invariant-loop-name : goal.invariant-loop-name
invariant-loop-name g l = Pushes l.features l.feature.enables_features.keys l.initial.pending.items l.pending.items l.name-iterator.iter
