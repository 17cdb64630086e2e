use Rattle.cargo_toml_resolve.proofs.Cited.{Bor, Some, Text, action_at, action_of, ap, btree_map_turn, deref_pair, iter_end, map, on_ok_weaker, on_texts, option_map, rules, ◌≡◌}
use Rattle.cargo_toml_resolve.proofs.NumberRows.{action_put, all_actions, one_acted}
use Rattle.cargo_toml_resolve.proofs.numbering.push_actions.Goals as goal

pub returns-in-Some : goal.returns-in-Some
returns-in-Some c =
    on_ok_weaker c.push_action.result (one_acted c.args.keys.now c.args.own c.args.actions.now c.in-Some.key.now c.in-Some.action.now c.args.row.now.items c.push_action.new.row.items (search rules) c.in-Some.ensures.first) c.push_action.ensures

pub loop-key-preserved : goal.loop-key-preserved
loop-key-preserved c =
    let there : action_at c.args.actions.now c.in-Some-2.key.now.now ≡ Some (action_of c.in-Some-2.action.now) = ap (option_map action_of) (btree_map_turn deref_pair c.loop-key.yielded c.into_iter-key-iterator.result c.loop-key.key-iterator c.next.new.self c.next.result (c.in-Some-2.key, c.in-Some-2.action) c.loop-key.yielded_by c.in-Some-2.is c.next.ensures.steps (on_texts (λ (k : Bor Text). k.now)) c.args.actions.now (search rules) c.iter-key-items.ensures.ordered).1 in
    action_put c.args.keys.now c.args.own c.args.actions.now c.loop-key.yielded c.in-Some-2.key c.in-Some-2.action c.args.row.now.items c.loop-key.row.items c.push_action-in-loop-key.new.row.items there c.loop-key.invariant c.in_ok-push_action.ensures

pub returns : goal.returns
returns c =
    let all : map deref_pair c.loop-key.yielded ≡ c.args.actions.now.entries = search (rules, iter_end) in
    all_actions c.args.keys.now c.args.own c.args.actions.now c.loop-key.yielded c.args.row.now.items c.loop-key.row.items all c.loop-key.invariant
