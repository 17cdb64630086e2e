use Rattle.std.proofs.Common.{take}
use Rattle.cargo_toml_features.proofs.Redundancy.{HaveAnyway}
use Rattle.cargo_toml_features.proofs.redundant.redundant_features.Given as goal

abbrev pub invariant-loop-dependency : goal.invariant-loop-dependency
invariant-loop-dependency l =
    HaveAnyway (take l.dependency-index l.dependency-items) l.values.items
