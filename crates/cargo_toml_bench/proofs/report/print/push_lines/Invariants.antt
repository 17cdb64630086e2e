use Rattle.cargo_toml_bench.proofs.Cited.{lines_with, string_bytes, take, texts_now, ◌++◌, ◌≡◌}
use Rattle.cargo_toml_bench.proofs.report.print.push_lines.Given as goal

abbrev pub invariant-loop-name : goal.invariant-loop-name
invariant-loop-name l = string_bytes l.text ≡ string_bytes l.initial.text ++ lines_with l.word (texts_now (take l.name-index l.names))
