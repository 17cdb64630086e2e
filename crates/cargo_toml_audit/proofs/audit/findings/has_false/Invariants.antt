use Rattle.cargo_toml_audit.proofs.Cited.{drop, entries_of, held, is_not_inherited, listed_of, map, ◌≡◌}
use Rattle.cargo_toml_audit.proofs.audit.findings.has_false.Given as goal

abbrev pub invariant-loop-entry : goal.invariant-loop-entry
invariant-loop-entry g l = is_not_inherited (map listed_of (drop l.entry-index l.entry-items)) ≡ is_not_inherited (entries_of (held l.manifest))
