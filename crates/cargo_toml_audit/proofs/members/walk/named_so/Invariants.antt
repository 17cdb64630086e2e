use Rattle.cargo_toml_audit.proofs.Cited.{drop, map, named_so, part_of, string_bytes, ◌++◌, ◌≡◌}
use Rattle.cargo_toml_audit.proofs.members.walk.named_so.Given as goal

abbrev pub invariant-loop-name : goal.invariant-loop-name
invariant-loop-name l =
    map string_bytes l.all.items ++ named_so l.folder (map part_of l.pattern) (map string_bytes (drop l.name-index l.names))
    ≡ named_so l.folder (map part_of l.pattern) (map string_bytes l.names)
