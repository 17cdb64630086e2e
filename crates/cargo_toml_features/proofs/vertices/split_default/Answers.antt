use Rattle.cargo_toml_features.proofs.Cited.{Listing, always_returns_same, codes, is_below, rules}
use Rattle.cargo_toml_features.proofs.Merging.{default_between, default_last}
use Rattle.cargo_toml_features.proofs.vertices.split_default.Goals as goal

pub returns-clause-below : goal.returns-clause-below
returns-clause-below c = default_last c.args.listings.now c.split_at.result.0.now c.split_at.result.1.now c.partition_point-place.result
    c.split_at.ensures.by_index.0 c.split_at.ensures.front_len c.requires c.partition_point-place.ensures.bound
    (c.partition_point-place.ensures.partitioned (λ (l : Listing). is_below l.name.now (codes "default")) (always_returns_same _ _ _ (λ a r f k. search rules)))

pub returns-clause-between : goal.returns-clause-between
returns-clause-between c = default_between c.args.listings.now c.split_at.result.0.now c.split_at.result.1.now c.partition_point-place.result
    c.split_at.ensures.by_index.0 c.split_at.ensures.front_len c.requires c.partition_point-place.ensures.bound
    (c.partition_point-place.ensures.partitioned (λ (l : Listing). is_below l.name.now (codes "default")) (always_returns_same _ _ _ (λ a r f k. search rules)))
