use Rattle.{std.proofs.lemmas.Result.on_ok_weaker, std.proofs.Common.sym, std.proofs.Common.ap, std.proofs.Common.subst, std.proofs.Common.◌∙◌, cargo_toml_graph.specs.Ascending.Ascend, cargo_toml_features.specs.InOrder.names_of}
use Rattle.cargo_toml_resolve.proofs.Learning.{all_learnt, unremoved}
use Rattle.cargo_toml_resolve.proofs.enabling.set_enablers.Goals as goal

pub learn_leaders-requires-clause-in_order : goal.learn_leaders-requires-clause-in_order
learn_leaders-requires-clause-in_order c = rw c.as_slice-3.ensures.value (subst Ascend (sym (c.in_ok-keys.ensures ∙ ap names_of c.as_slice-2.ensures.value)) c.requires.in_order)

pub learn_leaders-requires-clause-keys : goal.learn_leaders-requires-clause-keys
learn_leaders-requires-clause-keys c = rw c.as_slice-3.ensures.value (c.in_ok-keys.ensures ∙ ap names_of c.as_slice-2.ensures.value)

pub returns-clause-same : goal.returns-clause-same
returns-clause-same c = on_ok_weaker c.learn_leaders.result (λ l. l.same) c.learn_leaders.ensures

pub returns-clause-unremoved : goal.returns-clause-unremoved
returns-clause-unremoved c = on_ok_weaker c.learn_leaders.result (λ learn t made. unremoved t c.args.features.now.items c.learn_leaders.new.features.items c.requires.in_order c.requires.no_enablers made learn) c.learn_leaders.ensures

pub returns-then-lead_nowhere-clause-unremoved : goal.returns-then-lead_nowhere-clause-unremoved
returns-then-lead_nowhere-clause-unremoved c = λ t made.
    let vs = c.args.features.now.items in
    let none = rw c.as_slice.ensures.value at c.lead_nowhere.ensures in
    unremoved t vs vs c.requires.in_order c.requires.no_enablers made (all_learnt vs (none c.if-lead_nowhere.true))
