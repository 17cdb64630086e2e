use Rattle.cargo_toml_package.proofs.Cited.{Detail, List, Some, ap, apart, detail_of, details_of, feature_meaning, map, map_meaning, mean_alike, option_map, pairs_meaning, string_bytes, sym, ℕ, ◌∙◌}
use Rattle.cargo_toml_package.proofs.Apart.{details_ascend, lists_ascend}
use Rattle.cargo_toml_package.proofs.feature.read_features.Goals as goal

pub map_of_pairs-requires : goal.map_of_pairs-requires
map_of_pairs-requires c = record {
  ascend = lists_ascend (λ v. map string_bytes v.items) c.in_ok-written.written.items c.in_ok-lists.field-0.lists.items c.in_ok-lists.ensures.lists c.in_ok-written.ensures.ascend;
}

pub map_of_pairs-requires-2 : goal.map_of_pairs-requires-2
map_of_pairs-requires-2 c = record {
  ascend = details_ascend c.in_ok-written.written.items c.in_ok-lists.field-0.details.items c.in_ok-lists.ensures.details c.in_ok-written.ensures.ascend;
}

pub returns : goal.returns
returns c =
    let all = pairs_meaning feature_meaning c.in_ok-written.written.items in
    let lists = mean_alike (λ v. map string_bytes v.items) c.in_ok-lists-2.lists.entries c.in_ok-lists.field-0.lists.items c.in_ok-lists-2.ensures ∙ c.in_ok-lists.ensures.lists in
    let details = mean_alike detail_of c.in_ok-details.details.entries c.in_ok-lists.field-0.details.items c.in_ok-details.ensures ∙ c.in_ok-lists.ensures.details in
    ap (option_map apart) c.in_ok-written.ensures.reads
    ∙ ap (λ (ls : List (List ℕ × List (List ℕ))). Some (ls, details_of all)) (sym lists)
    ∙ ap (λ (ds : List (List ℕ × Detail)). Some (map_meaning (λ v. map string_bytes v.items) c.in_ok-lists-2.lists, ds)) (sym details)
