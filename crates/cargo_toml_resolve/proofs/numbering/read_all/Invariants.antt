use Rattle.cargo_toml_resolve.{specs.Texts.texts_now, proofs.NumberRows.RowsSoFar}
use Rattle.cargo_toml_resolve.proofs.numbering.read_all.Given as goal

abbrev pub invariant-loop-own : goal.invariant-loop-own
invariant-loop-own l = RowsSoFar l.features l.flags l.own (texts_now l.texts.items) l.rows.edges l.rows.names
