use Rattle.cargo_toml_audit.proofs.Cited.{asked_in, asking_of, drop, listed_of, map, ◌++◌, ◌≡◌}
use Rattle.cargo_toml_audit.proofs.audit.dependencies.add_uses.Given as goal

abbrev pub invariant-loop-entry : goal.invariant-loop-entry
invariant-loop-entry l =
    map asking_of l.uses.items ++ asked_in (map listed_of (drop l.entry-index l.entries)) ≡ map asking_of l.fn.uses.items ++ asked_in (map listed_of l.entries)
