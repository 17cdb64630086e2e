use Rattle.cargo_toml_lint.proofs.Cited.{◌≡◌, flat_map, key_of, keys_in, map, table_of, take}
use Rattle.cargo_toml_lint.proofs.known.dependency_keys.Given as goal

abbrev pub invariant-loop-table : goal.invariant-loop-table
invariant-loop-table g l =
    map key_of l.keys.items ≡ flat_map (λ t. keys_in t.0) (map table_of (take l.table-index l.table-items))
