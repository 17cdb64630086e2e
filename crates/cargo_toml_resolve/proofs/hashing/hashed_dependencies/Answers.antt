use Rattle.cargo_toml_resolve.proofs.Cited.{All-values_from_lookup, Bor, HasTarget, IfSome, Text, ap, held_among, map, on_texts_equal, subst, sym, ◌∙◌}
use Rattle.cargo_toml_resolve.proofs.hashing.hashed_dependencies.Goals as goal

pub returns-clause-same : goal.returns-clause-same
returns-clause-same g c = λ k. c.in_ok-by_key.ensures k ∙ ap (λ ns. held_among (map (λ (n : Bor Text). n.now) ns) c.args.dependencies.values.items k) c.as_slice.ensures.value

pub returns-clause-have_targets : goal.returns-clause-have_targets
returns-clause-have_targets g c =
    All-values_from_lookup (on_texts_equal (λ (k : Bor Text). k.now)) HasTarget c.in_ok-by_key.by_key.entries c.len-count.ensures.unique
    (λ q. subst (λ o. IfSome o HasTarget) (sym (returns-clause-same g c q.now)) (c.requires.targets q.now))
