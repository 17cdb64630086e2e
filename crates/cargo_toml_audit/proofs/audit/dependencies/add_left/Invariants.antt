use Rattle.cargo_toml_audit.proofs.Cited.{drop, flat_map, map, named_if, string_bytes, ◌++◌, ◌≡◌}
use Rattle.cargo_toml_audit.proofs.audit.dependencies.add_left.Given as goal

abbrev pub invariant-loop-key : goal.invariant-loop-key
invariant-loop-key l =
    map string_bytes l.keys.items ++ flat_map named_if (map (λ r. (r.0.now, r.1)) (drop l.key-index l.rows))
    ≡ map string_bytes l.fn.keys.items ++ flat_map named_if (map (λ r. (r.0.now, r.1)) l.rows)
