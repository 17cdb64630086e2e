use Rattle.cargo_toml_tools.proofs.Cited.{◌++◌, ◌≡◌, drop, entry_of, flat_map, key_if, map, table_keys, table_of}
use Rattle.cargo_toml_tools.proofs.index.features.kept_keys.Given as goal

abbrev pub invariant-loop-section : goal.invariant-loop-section
invariant-loop-section l =
    map (λ k. k.now) l.keys.items ++ flat_map table_keys (map table_of (drop l.section-index l.sections))
    ≡ flat_map table_keys (map table_of l.sections)

abbrev pub invariant-loop-key : goal.invariant-loop-key
invariant-loop-key l =
    map (λ k. k.now) l.keys.items ++ flat_map key_if (map entry_of l.key-iterator)
    ≡ map (λ k. k.now) l.initial.keys.items ++ flat_map key_if (map entry_of l.initial.key-iterator)
