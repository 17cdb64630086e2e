use Rattle.std.proofs.Common.{rules}
use Rattle.cargo_toml_package.proofs.SameCopies.{detail_same}
use Rattle.cargo_toml_package.proofs.dependency.DependencyDetailDuplicate.duplicate.Goals as goal

pub returns : goal.returns
returns c = search (rules, detail_same)
