use Rattle.cargo_toml_lint.proofs.Cited.{◌++◌, ◌≡◌, about, held_names, list_findings, map, string_bytes, take}
use Rattle.cargo_toml_lint.proofs.gathering.add_feature.Given as goal

abbrev pub invariant-loop-text : goal.invariant-loop-text
invariant-loop-text l =
    map about l.found.items ≡ map about l.initial.found.items
    ++ list_findings (held_names l.known) l.name (map string_bytes (take l.text-index l.texts))
