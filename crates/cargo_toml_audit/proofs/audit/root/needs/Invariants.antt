use Rattle.cargo_toml_audit.proofs.Cited.{base_of, drop, flat_map, listed_of, map, need_by, string_bytes, ◌++◌, ◌≡◌}
use Rattle.cargo_toml_audit.proofs.audit.root.needs.Given as goal

abbrev pub invariant-loop-entry : goal.invariant-loop-entry
invariant-loop-entry l =
    map string_bytes l.all.items ++ flat_map (need_by (base_of l.root) l.place) (map listed_of (drop l.entry-index l.entry-items))
    ≡ flat_map (need_by (base_of l.root) l.place) (map listed_of l.entry-items)
