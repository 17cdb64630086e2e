use Rattle.cargo_toml_tools.proofs.Cited.{◌||◌, ◌≡◌, false, flat_map, is_extended, kept_lists, List, list_any, list_of, list_rows, lists_meaning, map, members_view, set_has, Text, true, with_rows}
use Rattle.cargo_toml_tools.proofs.index.features.put_lists.Given as goal

abbrev pub invariant-loop-name : goal.invariant-loop-name
invariant-loop-name l =
    let all = kept_lists (set_has l.keys) (lists_meaning l.features) in
    let left = kept_lists (set_has l.keys) (map list_of l.name-iterator) in
    record {
      first : with_rows (flat_map (list_rows false) left) (members_view l.first.entries)
          ≡ with_rows (flat_map (list_rows false) all) (members_view l.initial.first.entries);
      second : with_rows (flat_map (list_rows true) left) (members_view l.second.entries)
          ≡ with_rows (flat_map (list_rows true) all) (members_view l.initial.second.entries);
      extended : (l.has_second || list_any (λ (f : Text × List Text). is_extended f.1) left)
          ≡ list_any (λ (f : Text × List Text). is_extended f.1) all;
    }
