use Rattle.cargo_toml_features.proofs.Cited.{YieldsList-from_slice, any_from_yields_List, bytes_eq, rules, string_bytes, tests, ◌∙◌}
use Rattle.cargo_toml_features.proofs.ByPlace.{any_mapped}
use Rattle.cargo_toml_features.proofs.redundant.lists.Goals as goal

pub returns : goal.returns
returns c =
    any_from_yields_List (λ t. bytes_eq c.args.feature.now (string_bytes t)) _ _ _ c.any.ensures.ran (YieldsList-from_slice c.args.features.now cc) (λ x b q k. search (rules, tests))
    ∙ any_mapped (bytes_eq c.args.feature.now) string_bytes c.args.features.now
