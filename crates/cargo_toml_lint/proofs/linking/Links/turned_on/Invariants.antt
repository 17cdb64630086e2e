use Rattle.cargo_toml_lint.proofs.Cited.{names_of, Path}
use Rattle.cargo_toml_lint.proofs.Placed.{SoFar}
use Rattle.cargo_toml_lint.proofs.linking.Links.turned_on.Given as goal

abbrev pub invariant-loop-other : goal.invariant-loop-other
invariant-loop-other l = SoFar (names_of l.self) (Path l.self.reach.next.items l.place) l.other l.found
