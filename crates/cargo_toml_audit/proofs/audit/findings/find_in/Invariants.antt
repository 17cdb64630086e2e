use Rattle.cargo_toml_audit.proofs.Cited.{drop, found_in, oddities_of, ◌++◌, ◌≡◌}
use Rattle.cargo_toml_audit.proofs.audit.findings.find_in.Given as goal

abbrev pub invariant-loop-code : goal.invariant-loop-code
invariant-loop-code l =
    oddities_of l.findings ++ found_in l.subject (drop l.code-index l.rows) ≡ oddities_of l.fn.findings ++ found_in l.subject l.rows
