use Rattle.cargo_toml_resolve.proofs.Spans.{at_row}
use Rattle.cargo_toml_resolve.proofs.rows.Rows.row.Goals as goal

pub part-requires-clause-order : goal.part-requires-clause-order
part-requires-clause-order c = (at_row c.self.inside.nodes.items c.self.inside.spans.items c.args.self.now c.self.view_is c.self.invariant c.args.at c.requires c.place.result c.index.result.now c.place.ensures c.index.ensures).0

pub part-requires-clause-fits : goal.part-requires-clause-fits
part-requires-clause-fits c =
    let e = c.deref.ensures.value in
    let h = (at_row c.self.inside.nodes.items c.self.inside.spans.items c.args.self.now c.self.view_is c.self.invariant c.args.at c.requires c.place.result c.index.result.now c.place.ensures c.index.ensures).1 in
    rw e h
