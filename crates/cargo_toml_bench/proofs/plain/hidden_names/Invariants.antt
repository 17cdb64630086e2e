use Rattle.{std.proofs.Common.◌≡◌, std.proofs.Common.Bool, std.proofs.Common.take, std.specs.Prelude.filter, cargo_toml_bench.specs.Removing.is_hidden}
use Rattle.{cargo_toml_graph.specs.Action.Text, cargo_toml_resolve.specs.Filter.FilterTells, cargo_toml_resolve.specs.Texts.texts_now}
use Rattle.cargo_toml_bench.proofs.plain.hidden_names.Given as goal

abbrev pub invariant-loop-name : goal.invariant-loop-name
invariant-loop-name g l = (keep : Text → Bool) → FilterTells g.F.Fn l.kept_by keep → texts_now l.hidden.items ≡ filter (is_hidden keep) (texts_now (take l.name-index l.names))
