use Rattle.cargo_toml_audit.proofs.Cited.{drop, map, string_bytes, ◌++◌, ◌≡◌}
use Rattle.cargo_toml_audit.proofs.audit.findings.names.Given as goal

abbrev pub invariant-loop-member : goal.invariant-loop-member
invariant-loop-member l =
    map string_bytes l.all.items ++ map (λ m. string_bytes m.name) (drop l.member-index l.members) ≡ map (λ m. string_bytes m.name) l.members
