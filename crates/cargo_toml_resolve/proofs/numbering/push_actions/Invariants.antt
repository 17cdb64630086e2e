use Rattle.{std.proofs.Common.length, cargo_toml_resolve.specs.Numbering.Gains, cargo_toml_resolve.proofs.NumberRows.PlainSoFar}
use Rattle.cargo_toml_resolve.proofs.numbering.push_actions.Given as goal

abbrev pub invariant-loop-key : goal.invariant-loop-key
invariant-loop-key l = Gains (length l.keys) l.own (PlainSoFar l.keys l.own l.actions l.yielded) l.initial.row.items l.row.items
