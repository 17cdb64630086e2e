use Rattle.cargo_toml_tools.proofs.Cited.{◌∙◌, any_from_yields_List, any_map, Bor, is_newer, item_of, rules, sym, tests, Text, YieldsList-from_slice}
use Rattle.cargo_toml_tools.proofs.index.features.is_extended.Goals as goal

pub returns : goal.returns
returns c =
    any_from_yields_List (λ (t : Bor Text). is_newer (item_of t.now)) _ _ _ c.any.ensures.ran (YieldsList-from_slice c.args.texts.now cc) (λ x b q k. search (rules, tests))
    ∙ sym (any_map (λ text. is_newer (item_of text)) (λ t. t.now) c.args.texts.now)
