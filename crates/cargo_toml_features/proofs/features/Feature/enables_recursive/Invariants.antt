use Rattle.std.proofs.Common.{◌+◌, length}
use Rattle.cargo_toml_features.{specs.Visits.still, proofs.Walks.Walks, proofs.Walks.is_found, proofs.Walks.work}
use Rattle.cargo_toml_features.proofs.features.Feature.enables_recursive.Given as goal

abbrev pub invariant-loop-next : goal.invariant-loop-next
invariant-loop-next g l = Walks l.features l.self.key.now l.found l.dependencies (still l.pending.items l.next)

abbrev pub decreases-loop-next : goal.decreases-loop-next
decreases-loop-next g l = work (is_found l.found) l.features.entries + length (still l.pending.items l.next)
