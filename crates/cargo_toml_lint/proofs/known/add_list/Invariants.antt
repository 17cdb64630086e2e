use Rattle.cargo_toml_lint.proofs.Cited.{◌++◌, ◌≡◌, acted_by, key_of, map, string_bytes, take}
use Rattle.cargo_toml_lint.proofs.known.add_list.Given as goal

abbrev pub invariant-loop-text : goal.invariant-loop-text
invariant-loop-text l =
    map key_of l.keys.items ≡ map key_of l.initial.keys.items
    ++ acted_by (map string_bytes (take l.text-index l.texts))
