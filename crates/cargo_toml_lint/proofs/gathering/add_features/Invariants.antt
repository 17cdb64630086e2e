use Rattle.cargo_toml_lint.proofs.Cited.{◌++◌, ◌≡◌, about, feature_findings, flat_map, held_names, is_beyond, List, listed_by, map, Text}
use Rattle.cargo_toml_lint.proofs.Gathered.{list_of}
use Rattle.cargo_toml_lint.proofs.gathering.add_features.Given as goal

abbrev pub invariant-loop-name : goal.invariant-loop-name
invariant-loop-name g l =
    let of = λ (e : Text × List Text).
    feature_findings (held_names l.known) (is_beyond l.features l.limit e.0 e.1) e.0 e.1 in
    map about l.found.items ++ flat_map of (map list_of l.name-iterator)
    ≡ map about l.initial.found.items ++ flat_map of (listed_by l.known)
