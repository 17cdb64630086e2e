use Rattle.cargo_toml_resolve.proofs.Learning.{all_kept}
use Rattle.cargo_toml_resolve.proofs.kept.all_hashed.Goals as goal

pub returns : goal.returns
returns g c = λ t removed start none. all_kept c.args.features.items c.in_ok-hashed_features.field-0 c.in_ok-hashed_features.ensures t removed c.with_hasher-hidden.result (λ r. rw c.with_hasher-hidden.ensures.empty) none start
