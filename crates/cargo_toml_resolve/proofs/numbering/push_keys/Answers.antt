use Rattle.cargo_toml_resolve.proofs.Cited.{Among, Gains, false≢true, rules, subst, sym, take, take_all, ◌+◌, ◌∙◌}
use Rattle.cargo_toml_resolve.proofs.{NumberRows.node_left, NumberRows.node_put, Steps.item_is, numbering.push_keys.Goals.then-is_other_key+in_ok-push, numbering.push_keys.Goals.else-is_other_key}
use Rattle.cargo_toml_resolve.proofs.numbering.push_keys.Goals as goal

pub loop-node-preserved : goal.loop-node-preserved
loop-node-preserved c =
    let nodes = c.args.nodes.now in
    let i = c.loop-node.node-index in
    let n = c.args.count in
    let is = item_is nodes i _ c.loop-node-test.true c.node-item.is in
    elim c.if-is_other_key.branch [
      | then-is_other_key+in_ok-push w ↦
          rw w.row-is (subst (Gains n c.args.own (Among (take (i + 1) nodes)) c.args.row.now.items) (sym w.in_ok-push.ensures.items)
          (node_put n c.args.own nodes i _ c.args.row.now.items c.loop-node.row.items c.loop-node-test.true is c.loop-node.invariant (c.is_other_key.ensures.0 w.if-is_other_key.true)))
      | else-is_other_key w ↦
          rw w.row-is (node_left n c.args.own nodes i _ c.args.row.now.items c.loop-node.row.items c.loop-node-test.true is c.loop-node.invariant (λ p. false≢true (sym w.if-is_other_key.false ∙ c.is_other_key.ensures.1 p)))
    ]

pub returns : goal.returns
returns c = subst (λ ns. Gains c.args.count c.args.own (Among ns) c.args.row.now.items c.loop-node.row.items) (take_all c.loop-node.node-index c.args.nodes.now (search rules)) c.loop-node.invariant
