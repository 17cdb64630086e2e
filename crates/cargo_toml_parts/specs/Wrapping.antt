-- Faults of completion, with the path of the workspace.
use Rattle.std.specs.Prelude.{ℕ, List, Option}
use Rattle.cargo_toml_parts.specs.FaultValues.{Fault, workspace, memory}

-- the fault as one of a workspace, unless it is such already or `Memory`
abbrev pub wrap : Option (List ℕ) → Fault → Fault
wrap path (workspace fault inner) = workspace fault inner
wrap path memory = memory
wrap path fault = workspace fault path
