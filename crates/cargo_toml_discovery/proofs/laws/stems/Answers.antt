use Rattle.std.proofs.Common.{length, arith}
use Rattle.cargo_toml_discovery.proofs.Stems.{rebuilt, stripped-done}
use Rattle.cargo_toml_discovery.proofs.laws.stems.Goals as goal

pub returns-clause-end : goal.returns-clause-end
returns-clause-end c = λ name. stripped-done (length name) name (omega arith)

pub returns-clause-whole : goal.returns-clause-whole
returns-clause-whole c = λ name. rebuilt (length name) name
