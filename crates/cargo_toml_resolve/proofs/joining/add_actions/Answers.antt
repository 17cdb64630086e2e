use Rattle.cargo_toml_resolve.proofs.Cited.{Bor, Some, Text, action_at, action_of, ap, btree_map_turn, deref_pair, iter_end, map, on_texts, option_map, rules, ◌≡◌}
use Rattle.cargo_toml_resolve.proofs.Sets.{next_action, keys_more, all_joined}
use Rattle.cargo_toml_resolve.proofs.joining.add_actions.Goals as goal

pub loop-key-preserved : goal.loop-key-preserved
loop-key-preserved c =
    let there : action_at c.args.other.now c.in-Some.key.now.now ≡ Some (action_of c.in-Some.action.now) = ap (option_map action_of) (btree_map_turn deref_pair c.loop-key.yielded c.into_iter-key-iterator.result c.loop-key.key-iterator c.next.new.self c.next.result (c.in-Some.key, c.in-Some.action) c.loop-key.yielded_by c.in-Some.is c.next.ensures.steps (on_texts (λ (k : Bor Text). k.now)) c.args.other.now (search rules) c.iter-key-items.ensures.ordered).1 in
    next_action (action_at c.args.own.now) (action_at c.args.other.now) (action_at c.loop-key.own) (action_at c.add_action.new.own) _ _ c.in-Some.key.now.now (action_of c.in-Some.action.now) there
    (keys_more c.loop-key.yielded c.in-Some.key c.in-Some.action) c.loop-key.invariant c.in_ok-add_action.ensures

pub returns : goal.returns
returns c = λ k.
    let all : map deref_pair c.loop-key.yielded ≡ c.args.other.now.entries = search (rules, iter_end) in
    all_joined c.args.other.now c.loop-key.yielded all (action_at c.loop-key.own k) (action_at c.args.own.now k) k (c.loop-key.invariant k)
