use Rattle.cargo_toml_features.specs.contracts.features.TargetKeyOrd.TheImpl.Laws as laws
use Rattle.cargo_toml_features.proofs.laws.targets.Goals as goal

pub returns-clause-agree : goal.returns-clause-agree
returns-clause-agree c = laws.matches_eq-law
