use Rattle.cargo_toml_features.proofs.Cited.{ap, entry_of, has_key, is_offered, map, take_all, ◌∙◌}
use Rattle.cargo_toml_features.proofs.ByPlace.{same_among}
use Rattle.cargo_toml_features.proofs.vertices.offered.Goals as goal

pub returns-clause-keys : goal.returns-clause-keys
returns-clause-keys c = λ q.
    same_among (map (λ t. t.now) c.loop-entry.keys.items) (map (λ t. t.now) c.ascending.result.items) (λ x. (c.ascending.ensures.all x).0) (λ x. (c.ascending.ensures.all x).1) q
    ∙ c.loop-entry.invariant q
    ∙ ap (λ es. is_offered (has_key c.args.acted.now.reserved) (map entry_of es) q) (take_all c.loop-entry.entry-index c.args.entries.now c.loop-entry-test.false)
