use Rattle.std.proofs.Common.{IsTrue}
use Rattle.cargo_toml_graph.proofs.InByteOrder.{passed_has, passed_once}
use Rattle.cargo_toml_graph.proofs.theory.elimination.bins_in_byte_order_are_settled.Goals as goal

pub returns-clause-one : goal.returns-clause-one
returns-clause-one c = λ t own removed a b p q f k. passed_once t (λ v. IsTrue (removed v)) own a b p q f k

pub returns-clause-bins : goal.returns-clause-bins
returns-clause-bins c = λ t own removed bins p there f k. passed_has t (λ v. IsTrue (removed v)) own there bins p f k
