use Rattle.cargo_toml_tools.proofs.Cited.{◌≡◌, entry_of, entry_refusal, first_refusal, map, table_of, table_refusal, wanted_of}
use Rattle.cargo_toml_tools.proofs.index.refusals.table_refusal.Given as goal

abbrev pub invariant-loop-key : goal.invariant-loop-key
invariant-loop-key l =
    first_refusal (entry_refusal (wanted_of l.terms.0) l.terms.1 (table_of l.section)) (map entry_of l.key-iterator)
    ≡ table_refusal (wanted_of l.terms.0) l.terms.1 (table_of l.section)
