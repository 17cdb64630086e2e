use Rattle.cargo_toml_tools.proofs.Cited.{◌≡◌, drop, first_refusal, map, table_of, table_refusal, wanted_of}
use Rattle.cargo_toml_tools.proofs.index.refusals.tables_refusal.Given as goal

abbrev pub invariant-loop-section : goal.invariant-loop-section
invariant-loop-section l =
    first_refusal (table_refusal (wanted_of l.terms.0) l.terms.1) (map table_of (drop l.section-index l.sections))
    ≡ first_refusal (table_refusal (wanted_of l.terms.0) l.terms.1) (map table_of l.sections)
