use Rattle.cargo_toml_tools.proofs.Cited.{◌≡◌, address_named, drop, names_of}
use Rattle.cargo_toml_tools.proofs.index.registries.address_named.Given as goal

abbrev pub invariant-loop-known : goal.invariant-loop-known
invariant-loop-known l =
    address_named (names_of (drop l.known-index l.names)) l.name ≡ address_named (names_of l.names) l.name
