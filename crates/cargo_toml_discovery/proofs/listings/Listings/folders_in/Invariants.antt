use Rattle.cargo_toml_discovery.proofs.Cited.{answers_of, below, map, names_in, string_bytes, ◌++◌, ◌≡◌}
use Rattle.cargo_toml_discovery.proofs.listings.Listings.folders_in.Given as goal

abbrev pub invariant-loop-name : goal.invariant-loop-name
invariant-loop-name l = map string_bytes l.paths.items ++ below l.folder (map (λ k. string_bytes k) l.name-iterator) ≡ below l.folder (names_in (answers_of l.self) l.folder)
