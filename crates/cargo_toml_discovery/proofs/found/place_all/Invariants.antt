use Rattle.cargo_toml_discovery.proofs.Cited.{List, Offered, drop, is_path_in, map, named_of, offers, walked, ◌++◌, ◌≡◌}
use Rattle.cargo_toml_discovery.proofs.found.place_all.Given as goal

abbrev pub invariant-loop-entry : goal.invariant-loop-entry
invariant-loop-entry l = (os : List Offered) →
    walked l.placing (offers l.folder (is_path_in l.paths) (map named_of (drop l.entry-index l.entries)) ++ os)
    ≡ walked l.fn.placing (offers l.folder (is_path_in l.paths) (map named_of l.entries) ++ os)
