use Rattle.cargo_toml_discovery.proofs.Cited.{answers_of, map, named_in, named_of, names_in, string_bytes, ◌++◌, ◌≡◌}
use Rattle.cargo_toml_discovery.proofs.listings.Listings.entries.Given as goal

abbrev pub invariant-loop-name : goal.invariant-loop-name
invariant-loop-name l = map named_of l.entries.items ++ map (named_in (answers_of l.self) l.folder) (map (λ k. string_bytes k) l.name-iterator) ≡ map (named_in (answers_of l.self) l.folder) (names_in (answers_of l.self) l.folder)
