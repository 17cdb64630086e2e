use Rattle.cargo_toml_package.proofs.Cited.{drop, into_iter_items, next_target, refl, replaced_targets, rules, target_meaning}
use Rattle.cargo_toml_package.proofs.Replaced.{replaced-by}
use Rattle.cargo_toml_package.proofs.workspace_dependencies.targets.replace_targets.Goals as goal

pub returns : goal.returns
returns c = rw (← c.into_iter-made.ensures.rest) (replaced-by target_meaning (λ f. into_iter_items f.0.now) next_target (λ t rs. drop 1 rs) replaced_targets _
    (record { at = λ f k v b w f' t. search rules; none = λ rs. refl; more = λ e es rs. refl }) _ _ _ c.retain.ensures.filtered)
