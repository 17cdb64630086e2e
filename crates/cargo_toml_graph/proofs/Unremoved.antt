-- Where nothing is removed, the table itself is what a resolution holds.
use Rattle.cargo_toml_graph.specs.{Action.Text, Reach.Reaches.edge, Reach.Reaches.through, Graph.Table, Graph.Resolution}
use Rattle.cargo_toml_graph.specs.Graph.{IsResolved, IsUnremoved}
use Rattle.cargo_toml_graph.proofs.Joins.{join_alike, join_one}
use Rattle.std.proofs.Common.{rules}

pub resolved_unremoved : (t : Table) (m : Resolution) (Removed : Text → Type 0) → ((v : Text) → ¬ Removed v) → IsUnremoved t m → IsResolved t Removed m
resolved_unremoved v0 v1 v2 v3 v4 = search (rules, join_alike, join_one, edge, through)
