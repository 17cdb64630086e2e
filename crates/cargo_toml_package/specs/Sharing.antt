-- What a workspace gives to its members.
use Rattle.std.specs.Prelude.{ℕ, List, codes, Option, Some, None, option_map, Result, Ok, Err}
use Rattle.cargo_toml_parts.specs.FaultValues.{Fault, workspace_integrity}
use Rattle.cargo_toml_parts.specs.declared.inheritable.Inheritable.{Inheritable}
use Rattle.cargo_toml_parts.specs.declared.inheritable.Inheritable.TheVariants.{Set, Inherited}
use Rattle.cargo_toml_package.specs.InheritedDependencies.{Entries}
use Rattle.cargo_toml_package.specs.Templates.{TemplateMeaning}
use Rattle.cargo_toml_parts.specs.Lints.{LintMeaning}
use Rattle.cargo_toml_package.specs.Workspaces.{WorkspaceMeaning, workspace_meaning}
use Rattle.cargo_toml_package.specs.declared.workspace.Workspace.{Workspace}

-- lints by tool, and then by name
abbrev pub LintsByTool : Type 0
LintsByTool = List (List ℕ × List (List ℕ × LintMeaning))

-- what a workspace gives to its members
pub record Shared : Type 0 where
  pub template : Option TemplateMeaning
  pub dependencies : Entries
  pub lints : LintsByTool

-- what a workspace shares with its packages
abbrev pub shared : {N : Type 0} → WorkspaceMeaning N → Shared
shared w = record { template = w.«package»; dependencies = w.dependencies; lints = w.lints }

-- what inherited lints become, by those of the workspace where it has a table
abbrev pub inherited_lints : Option LintsByTool → Inheritable LintsByTool
    → Result (Inheritable LintsByTool) Fault
inherited_lints table (Set lints) = Ok (Set lints)
inherited_lints (Some lints) Inherited = Ok (Set lints)
inherited_lints None Inherited =
    Err (workspace_integrity (codes "lints are inherited, but there is no workspace table"))

-- what a workspace shares, where there is one
abbrev pub shared_of : {N : Type 0} → Option (Workspace N) → Option Shared
shared_of workspace = option_map (λ w. shared (workspace_meaning (λ x. x) w)) workspace
