use Rattle.cargo_toml_audit.proofs.Cited.{drop, filter, is_wrong, map, string_bytes, ◌++◌, ◌≡◌}
use Rattle.cargo_toml_audit.proofs.members.wrong_entries.Given as goal

abbrev pub invariant-loop-entry : goal.invariant-loop-entry
invariant-loop-entry l =
    map string_bytes l.all.items ++ filter is_wrong (map string_bytes (drop l.entry-index l.entries)) ≡ filter is_wrong (map string_bytes l.entries)
