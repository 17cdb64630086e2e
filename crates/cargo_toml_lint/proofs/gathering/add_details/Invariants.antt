use Rattle.cargo_toml_lint.proofs.Cited.{◌++◌, ◌≡◌, [], about, Detail, detail_of, FeatureTable, flat_map, map, map_meaning, Some, string_bytes, Text, told}
use Rattle.cargo_toml_lint.proofs.gathering.add_details.Given as goal

abbrev pub invariant-loop-name : goal.invariant-loop-name
invariant-loop-name l =
    let of = λ (e : Text × Detail). told e.0 [] (Some FeatureTable) in
    map about l.found.items ++ flat_map of (map (λ e. (string_bytes e.0, detail_of e.1)) l.name-iterator)
    ≡ map about l.initial.found.items ++ flat_map of (map_meaning detail_of l.details)
