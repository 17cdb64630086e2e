use Rattle.std.proofs.Common.{List}
use Rattle.serde_json.specs.Data.{Data}
use Rattle.cargo_toml_answers.specs.Adding.{Adds}
use Rattle.cargo_toml_answers.proofs.Adding.{values_tokens}
use Rattle.cargo_toml_answers.proofs.linting.lines_json.Given as goal

abbrev pub invariant-loop-line : goal.invariant-loop-line
invariant-loop-line l = (ds : List Data) × Adds l.initial.out l.out (values_tokens ds)
