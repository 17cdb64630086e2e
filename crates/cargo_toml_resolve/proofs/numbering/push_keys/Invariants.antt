use Rattle.{std.proofs.Common.take, cargo_toml_graph.specs.Reach.Among, cargo_toml_resolve.specs.Numbering.Gains}
use Rattle.cargo_toml_resolve.proofs.numbering.push_keys.Given as goal

abbrev pub invariant-loop-node : goal.invariant-loop-node
invariant-loop-node l = Gains l.count l.own (Among (take l.node-index l.nodes)) l.initial.row.items l.row.items
