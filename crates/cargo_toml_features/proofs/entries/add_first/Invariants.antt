use Rattle.cargo_toml_features.proofs.Cited.{dependency_meaning, entry_of, first_entries, map, map_meaning, option_copied, string_bytes, ◌++◌, ◌≡◌}
use Rattle.cargo_toml_features.proofs.entries.add_first.Given as goal

abbrev pub invariant-loop-key : goal.invariant-loop-key
invariant-loop-key l =
    map entry_of l.entries.items
    ++ first_entries l.key-iterator.n l.kind (option_copied l.target) (map (λ e. (string_bytes e.0, dependency_meaning e.1)) l.key-iterator.iter)
    ≡ map entry_of l.initial.entries.items ++ first_entries l.limit l.kind (option_copied l.target) (map_meaning dependency_meaning l.table)
