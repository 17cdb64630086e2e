use Rattle.cargo_toml_graph.proofs.PassedBins.{bins_are}
use Rattle.cargo_toml_graph.proofs.theory.elimination.bins_are_passed_on.Goals as goal

pub returns-clause-bins : goal.returns-clause-bins
returns-clause-bins c = λ t own removed m start there once f k. bins_are t own removed m start there once f k
