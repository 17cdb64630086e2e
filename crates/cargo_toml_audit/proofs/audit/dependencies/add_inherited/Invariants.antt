use Rattle.cargo_toml_audit.proofs.Cited.{drop, flat_map, inherited_in, left_dependency, listed_of, map, string_bytes, ◌++◌, ◌≡◌}
use Rattle.cargo_toml_audit.proofs.audit.dependencies.add_inherited.Given as goal

abbrev pub invariant-loop-entry : goal.invariant-loop-entry
invariant-loop-entry l = record {
  keys : map string_bytes l.keys.items ++ flat_map left_dependency (map listed_of (drop l.entry-index l.entries))
      ≡ map string_bytes l.fn.keys.items ++ flat_map left_dependency (map listed_of l.entries);
  all : map string_bytes l.all.items ++ inherited_in (map listed_of (drop l.entry-index l.entries)) ≡ map string_bytes l.fn.all.items ++ inherited_in (map listed_of l.entries);
}
