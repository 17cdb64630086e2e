use Rattle.cargo_toml_lint.proofs.Cited.{◌++◌, ◌≡◌, acted_keys, key_of, map, map_meaning, string_bytes}
use Rattle.cargo_toml_lint.proofs.Gathered.{list_of}
use Rattle.cargo_toml_lint.proofs.known.acted_keys.Given as goal

abbrev pub invariant-loop-texts : goal.invariant-loop-texts
invariant-loop-texts l =
    map key_of l.keys.items ++ acted_keys (map list_of l.texts-iterator)
    ≡ acted_keys (map_meaning (λ v. map string_bytes v.items) l.features)
