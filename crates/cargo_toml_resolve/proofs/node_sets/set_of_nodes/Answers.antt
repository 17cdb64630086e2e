use Rattle.cargo_toml_resolve.{specs.Texts.texts_now, proofs.InOrder.set_made, proofs.InOrder.set_of_numbers, proofs.InOrder.set_of_inserted}
use Rattle.cargo_toml_resolve.proofs.node_sets.set_of_nodes.Goals as goal

pub returns : goal.returns
returns c =
    let list = c.in_ok-list.list.items in
    set_of_numbers c.args.texts.now c.args.nodes.now list c.set_of.result c.requires c.in_ok-list.ensures (set_made (texts_now list) c.set_of.result (rw c.as_slice.ensures.value at c.set_of.ensures))

pub returns-then-nodes-le-FEW : goal.returns-then-nodes-le-FEW
returns-then-nodes-le-FEW c = set_of_inserted c.args.texts.now c.args.nodes.now c.inserted.result c.requires (set_made _ c.inserted.result c.inserted.ensures)
