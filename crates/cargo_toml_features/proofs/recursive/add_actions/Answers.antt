use Rattle.cargo_toml_features.proofs.Cited.{deref_pair, iter_end, map, rules, ◌≡◌}
use Rattle.cargo_toml_features.proofs.Pending.{listed_one, listed_none, pairs_more, still_no_empty, all_listed}
use Rattle.cargo_toml_features.proofs.recursive.add_actions.Goals as goal

pub loop-key-preserved-in-Continue-1 : goal.loop-key-preserved-in-Continue-1
loop-key-preserved-in-Continue-1 g c = record {
  pairs = λ k. listed_one c.args.feature.now.key.now k c.loop-key.yielded (c.in-Some.key, c.in-Some.action) _ _ _ (search rules) (pairs_more _ _ _ _ c.in_ok-add_pair.ensures k) (c.loop-key.invariant.pairs k);
  no_empty = λ none. still_no_empty _ _ _ _ c.in_ok-add_pair.ensures (c.loop-key.invariant.no_empty none);
}

pub loop-key-preserved : goal.loop-key-preserved
loop-key-preserved g c = record {
  pairs = λ k. listed_none c.args.feature.now.key.now k c.loop-key.yielded (c.in-Some.key, c.in-Some.action) _ _ (search rules) (c.loop-key.invariant.pairs k);
  no_empty = c.loop-key.invariant.no_empty;
}

pub returns-clause-pairs : goal.returns-clause-pairs
returns-clause-pairs g c = λ k.
    let all : map deref_pair c.loop-key.yielded ≡ c.args.feature.now.enables_deps.entries = search (rules, iter_end) in
    all_listed c.args.feature.now.key.now k c.loop-key.yielded c.args.feature.now.enables_deps all c.into_iter-key-iterator.ensures.into_iter_gives.5 _ _ (c.loop-key.invariant.pairs k)
