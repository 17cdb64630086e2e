use Rattle.cargo_toml_package.proofs.Cited.{dependency_meaning, into_iter_items, map, next_for, refl, replaced, rest_for, rules}
use Rattle.cargo_toml_package.proofs.Replaced.{replaced-by}
use Rattle.cargo_toml_package.proofs.workspace_dependencies.replace.Goals as goal

pub returns : goal.returns
returns c = rw (← c.into_iter-made.ensures.rest) (replaced-by dependency_meaning (λ f. map dependency_meaning (into_iter_items f.0.now)) next_for rest_for replaced _
    (record { at = λ f k v b w f' t. search rules; none = λ rs. refl; more = λ e es rs. refl }) _ _ _ c.retain.ensures.filtered)
