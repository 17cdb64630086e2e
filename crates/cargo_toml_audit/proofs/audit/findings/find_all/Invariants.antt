use Rattle.cargo_toml_audit.proofs.Cited.{drop, found_each, map, oddities_of, string_bytes, ◌++◌, ◌≡◌}
use Rattle.cargo_toml_audit.proofs.audit.findings.find_all.Given as goal

abbrev pub invariant-loop-subject : goal.invariant-loop-subject
invariant-loop-subject l =
    oddities_of l.findings ++ found_each l.code (map string_bytes (drop l.subject-index l.subjects))
    ≡ oddities_of l.fn.findings ++ found_each l.code (map string_bytes l.subjects)
