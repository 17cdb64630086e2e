use Rattle.cargo_toml_lint.proofs.Cited.{◌++◌, ◌≡◌, dependency_meaning, key_of, keys_in, map, map_meaning}
use Rattle.cargo_toml_lint.proofs.Adding.{entry_of}
use Rattle.cargo_toml_lint.proofs.known.add_table.Given as goal

abbrev pub invariant-loop-key : goal.invariant-loop-key
invariant-loop-key l =
    map key_of l.keys.items ++ keys_in (map entry_of l.key-iterator)
    ≡ map key_of l.initial.keys.items ++ keys_in (map_meaning dependency_meaning l.table)
