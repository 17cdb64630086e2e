use Rattle.cargo_toml_features.proofs.Cited.{YieldsList-from_slice, any_from_yields_List, bytes_eq, rules, tests, ◌∙◌}
use Rattle.cargo_toml_features.proofs.ByPlace.{any_mapped, placed}
use Rattle.cargo_toml_features.proofs.acted.holds.Goals as goal

pub returns-then-texts-gt-FEW : goal.returns-then-texts-gt-FEW
returns-then-texts-gt-FEW c = c.is_some.ensures ∙ placed c.args.texts.now c.args.text.now c.place_of.result c.place_of.ensures.found c.place_of.ensures.missing

pub returns-else-texts-gt-FEW : goal.returns-else-texts-gt-FEW
returns-else-texts-gt-FEW c =
    any_from_yields_List (λ t. bytes_eq c.args.text.now t.now) _ _ _ c.any.ensures.ran (YieldsList-from_slice c.args.texts.now cc) (λ x b q k. search (rules, tests))
    ∙ any_mapped (bytes_eq c.args.text.now) (λ t. t.now) c.args.texts.now
