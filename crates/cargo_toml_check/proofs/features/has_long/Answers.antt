use Rattle.cargo_toml_check.proofs.Cited.{any_from_yields_List, any_map, is_over, length, length-map, map, rules, string_bytes, sym, tests, YieldsList-from_rest, ◌∙◌}
use Rattle.cargo_toml_check.proofs.features.has_long.Goals as goal

pub returns : goal.returns
returns c =
    any_from_yields_List (λ v. is_over c.args.limit (length (map string_bytes v.items))) _ _ _ c.any.ensures.ran (YieldsList-from_rest _ c.values.ensures.rest) (λ x b q k. rw length-map (search (rules, tests)))
    ∙ any_map (λ v. is_over c.args.limit (length (map string_bytes v.items))) (λ e. e.1) c.args.features.now.entries
    ∙ sym (any_map (λ f. is_over c.args.limit (length f.1)) (λ e. (string_bytes e.0, map string_bytes e.1.items)) c.args.features.now.entries)
