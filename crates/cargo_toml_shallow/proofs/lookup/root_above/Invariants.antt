use Rattle.std.proofs.Common.{◌≡◌, ◌⊎◌}
use Rattle.cargo_toml_parts.specs.FaultValues.{fault_of}
use Rattle.cargo_toml_parts.specs.declared.error.Error.{Memory}
use Rattle.cargo_toml_shallow.specs.Deep.{IsShallowRootFault}
use Rattle.cargo_toml_shallow.proofs.lookup.root_above.Given as goal

abbrev pub invariant-loop-above : goal.invariant-loop-above
invariant-loop-above g l = (l.last ≡ Memory) ⊎ IsShallowRootFault (fault_of l.last)
