use Rattle.cargo_toml_bench.proofs.Cited.{filter, is_alone_at, take, texts, texts_now, ◌≡◌}
use Rattle.cargo_toml_bench.proofs.report.alone_among.Given as goal

abbrev pub invariant-loop-name : goal.invariant-loop-name
invariant-loop-name g l = texts l.alone ≡ filter (is_alone_at l.features) (texts_now (take l.name-index l.names))
