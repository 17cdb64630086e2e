use Rattle.std.specs.Option.{option_copied}
use Rattle.cargo_toml_features.proofs.Targets.{first_same, is_first}
use Rattle.cargo_toml_features.proofs.features.FeatureDependency.detail.Goals as goal

pub returns-clause-first : goal.returns-clause-first
returns-clause-first c =
    (option_copied c.in-Some.target.now.target, is_first c.args.self.now c.in-Some.target.now c.in-Some.dependency.now c.in-Some.ensures.value c.in-Some.ensures.least)

pub returns-clause-recorded : goal.returns-clause-recorded
returns-clause-recorded c =
    first_same c.args.self.now c.in-Some.target.now c.in-Some.dependency.now c.in-Some.ensures.value c.in-Some.ensures.least
