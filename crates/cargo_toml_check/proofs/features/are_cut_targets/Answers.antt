use Rattle.cargo_toml_check.proofs.Cited.{any_from_yields_List, any_map, is_cut_target, rules, string_bytes, sym, target_meaning, tests, YieldsList-from_rest, ◌∙◌}
use Rattle.cargo_toml_check.proofs.features.are_cut_targets.Goals as goal

pub returns : goal.returns
returns c =
    any_from_yields_List (λ t. is_cut_target c.args.limit (target_meaning t)) _ _ _ c.any.ensures.ran (YieldsList-from_rest _ c.values.ensures.rest) (λ x b q k. search (rules, tests))
    ∙ any_map (λ t. is_cut_target c.args.limit (target_meaning t)) (λ e. e.1) c.args.targets.now.entries
    ∙ sym (any_map (λ t. is_cut_target c.args.limit t.1) (λ e. (string_bytes e.0, target_meaning e.1)) c.args.targets.now.entries)
