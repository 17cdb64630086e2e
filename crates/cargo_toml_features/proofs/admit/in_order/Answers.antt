use Rattle.cargo_toml_features.proofs.Cited.{Some, actions_at, ap, deref_pair, hash_map_turn, iter_end, map, on_texts_equal, option_map, rules, string_bytes, ◌≡◌}
use Rattle.cargo_toml_features.proofs.Listings.{all_put, one_put}
use Rattle.cargo_toml_features.proofs.admit.in_order.Goals as goal

pub loop-name-preserved : goal.loop-name-preserved
loop-name-preserved g c =
    let there : actions_at c.args.table.now (string_bytes c.in-Some.name.now) ≡ Some (map string_bytes c.in-Some.actions.now.items) =
    ap (option_map (λ v. map string_bytes v.items)) (hash_map_turn deref_pair c.loop-name.yielded c.into_iter-name-iterator.result c.loop-name.name-iterator c.next.new.self c.next.result (c.in-Some.name, c.in-Some.actions) c.loop-name.yielded_by c.in-Some.is c.next.ensures.steps
    (on_texts_equal string_bytes) c.args.table.now c.into_iter-name-iterator.ensures.into_iter_gives.0 c.into_iter-name-iterator.ensures.into_iter_gives.4).1 in
    one_put c.args.table.now c.loop-name.yielded c.in-Some.name c.in-Some.actions c.as_str.result c.as_slice.result c.loop-name.sorted c.insert.new.self c.as_str.ensures.value c.as_slice.ensures.value there c.in_ok-insert.ensures.updates c.loop-name.invariant

pub returns : goal.returns
returns g c =
    let all : map deref_pair c.loop-name.yielded ≡ c.args.table.now.entries = search (rules, iter_end) in
    all_put c.args.table.now c.loop-name.yielded c.loop-name.sorted all c.loop-name.invariant
