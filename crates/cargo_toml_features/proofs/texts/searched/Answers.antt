use Rattle.cargo_toml_features.proofs.Cited.{always_returns_same, is_below, rules}
use Rattle.cargo_toml_features.proofs.{Rising.unfound}
use Rattle.cargo_toml_features.proofs.texts.searched.Goals as goal

pub returns-else-stands_at-clause-missing : goal.returns-else-stands_at-clause-missing
returns-else-stands_at-clause-missing g c = λ none. unfound g.T.Named.text c.args.all.now c.args.name.now c.requires c.partition_point-place.result
    c.partition_point-place.ensures.bound
    (c.partition_point-place.ensures.partitioned (λ v. is_below (g.T.Named.text v) c.args.name.now)
    (always_returns_same _ _ _ (λ a r f k. search rules)))
    (c.stands_at.ensures.no c.if-stands_at.false)
