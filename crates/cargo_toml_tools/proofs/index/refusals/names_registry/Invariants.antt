use Rattle.cargo_toml_tools.proofs.Cited.{◌≡◌, drop, is_named, list_any, map, names_of, string_bytes}
use Rattle.cargo_toml_tools.proofs.index.refusals.names_registry.Given as goal

abbrev pub invariant-loop-name : goal.invariant-loop-name
invariant-loop-name l =
    list_any (is_named l.options.registry.now (names_of l.options.names.now)) (map string_bytes (drop l.name-index l.names))
    ≡ list_any (is_named l.options.registry.now (names_of l.options.names.now)) (map string_bytes l.names)
