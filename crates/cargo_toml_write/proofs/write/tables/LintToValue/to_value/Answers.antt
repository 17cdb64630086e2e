use Rattle.std.proofs.Common.{true}
use Rattle.cargo_toml_write.proofs.Writers.{◌∙◌, alone, chain, ends_over, false, free_way, lint_again, lint_meaning, lint_rows, lint_way, lint_writing, reads_again, sym}
use Rattle.cargo_toml_write.proofs.write.tables.LintToValue.to_value.Goals as goal

pub returns-then-is_level_alone : goal.returns-then-is_level_alone
returns-then-is_level_alone c =
    let lint = lint_meaning c.args.self.now in
    let written = lint_writing true lint c.to_value.result (sym c.is_level_alone.ensures ∙ c.if-is_level_alone.true) c.to_value.ensures.written in
    record { written = written; read_again = reads_again lint_again lint _ written; memory = alone lint_way lint _ written }

pub returns : goal.returns
returns c =
    let lint = lint_meaning c.args.self.now in
    let table = ends_over free_way (λ l. l.config) lint_rows lint c.finish.result c.over-writing.ensures c.finish.ensures (search chain depth 40 fits 4000) in
    let written = lint_writing false lint c.finish.result (sym c.is_level_alone.ensures ∙ c.if-is_level_alone.false) table in
    record { written = written; read_again = reads_again lint_again lint _ written; memory = alone lint_way lint _ written }
