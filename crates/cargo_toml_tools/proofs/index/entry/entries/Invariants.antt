use Rattle.cargo_toml_tools.proofs.Cited.{◌++◌, ◌≡◌, drop, entry_of, flat_map, index_entries, map, table_entries, table_of, view, wanted_of}
use Rattle.cargo_toml_tools.proofs.index.entry.entries.Given as goal

abbrev pub invariant-loop-section : goal.invariant-loop-section
invariant-loop-section l =
    map view l.entries.items ++ flat_map (table_entries (wanted_of l.options)) (map table_of (drop l.section-index l.sections))
    ≡ flat_map (table_entries (wanted_of l.options)) (map table_of l.sections)

abbrev pub invariant-loop-key : goal.invariant-loop-key
invariant-loop-key l =
    map view l.entries.items ++ flat_map (index_entries (wanted_of l.options) (table_of l.section)) (map entry_of l.key-iterator)
    ≡ map view l.initial.entries.items ++ table_entries (wanted_of l.options) (table_of l.section)
