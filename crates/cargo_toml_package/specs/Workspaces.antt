-- What a workspace holds, and which trees are workspaces.
use Rattle.std.specs.Prelude.{◌⊎◌, ℕ, List, map, Option, Some}
use Rattle.std.specs.Prelude.{option_map, option_and_then, string_bytes}
use Rattle.toml.specs.Data.{Data, Members, as_table}
use Rattle.cargo_toml_parts.specs.declared.error.Error.{Error}
use Rattle.cargo_toml_parts.specs.declared.settings.Resolver.{Resolver}
use Rattle.cargo_toml_package.specs.Dependencies.{DependencyMeaning}
use Rattle.cargo_toml_package.specs.Dependencies.{dependency_meaning, dependency_of}
use Rattle.cargo_toml_parts.specs.Lints.{LintMeaning, lint_meaning, lint_of}
use Rattle.cargo_toml_parts.specs.Reads.{◌>>=◌, list_of, map_of, map_meaning, optional_at}
use Rattle.cargo_toml_parts.specs.Reads.{list_at, map_at, FaultAt, TableRefuses, WrongShape}
use Rattle.cargo_toml_package.specs.declared.workspace.Workspace.{Workspace}
use Rattle.cargo_toml_parts.specs.Settings.{resolver_reads}
use Rattle.cargo_toml_package.specs.Templates.{TemplateMeaning, template_meaning, template_reads}

-- what a workspace holds, whose metadata are M
pub record WorkspaceMeaning (M : Type 0) : Type 0 where
  pub members : List (List ℕ)
  pub default_members : List (List ℕ)
  pub «package» : Option TemplateMeaning
  pub exclude : List (List ℕ)
  pub metadata : Option M
  pub resolver : Option Resolver
  pub dependencies : List (List ℕ × DependencyMeaning)
  pub lints : List (List ℕ × List (List ℕ × LintMeaning))

-- what a workspace holds, with its metadata as f reads them
abbrev pub workspace_meaning : {X M : Type 0} → (X → M) → Workspace X → WorkspaceMeaning M
workspace_meaning f w = record {
  members = map string_bytes w.members.items;
  default_members = map string_bytes w.default_members.items;
  «package» = option_map template_meaning w.«package»;
  exclude = map string_bytes w.exclude.items;
  metadata = option_map f w.metadata;
  resolver = option_map (λ x. x) w.resolver;
  dependencies = map_meaning dependency_meaning w.dependencies;
  lints = map_meaning (map_meaning lint_meaning) w.lints;
}

-- the workspace of a table, whose metadata is read as `metadata_of` says
abbrev pub workspace_of : {M : Type 0} → (Data → Option M) → Members → Option (WorkspaceMeaning M)
workspace_of metadata_of ms = do
  members ← list_at "members" ms
  default_members ← list_at "default-members" ms
  template ← optional_at "package" template_reads ms
  exclude ← list_at "exclude" ms
  metadata ← optional_at "metadata" metadata_of ms
  resolver ← optional_at "resolver" resolver_reads ms
  dependencies ← map_at "dependencies" dependency_of ms
  lints ← map_at "lints" (map_of lint_of) ms
  Some (record {
    members = members;
    default_members = default_members;
    «package» = template;
    exclude = exclude;
    metadata = metadata;
    resolver = resolver;
    dependencies = dependencies;
    lints = lints;
  })

-- which errors may stand in place of what is read from a tree
abbrev pub Refusal : Type 1
Refusal = Data → Error → Type 0

-- what may be wrong with a workspace
abbrev pub WorkspaceFaults : {M : Type 0} → (Data → Option M) → Refusal → Members → Error → Type 0
WorkspaceFaults metadata_of metadata_refuses ms e =
    FaultAt "members" list_of WrongShape ms e
    ⊎ FaultAt "default-members" list_of WrongShape ms e
    ⊎ FaultAt "package" template_reads WrongShape ms e
    ⊎ FaultAt "exclude" list_of WrongShape ms e
    ⊎ FaultAt "metadata" metadata_of metadata_refuses ms e
    ⊎ FaultAt "resolver" resolver_reads WrongShape ms e
    ⊎ FaultAt "dependencies" (map_of dependency_of) WrongShape ms e
    ⊎ FaultAt "lints" (map_of (map_of lint_of)) WrongShape ms e

-- the workspace of a tree
unfoldable pub workspace_reads : {M : Type 0} → (Data → Option M) → Data
    → Option (WorkspaceMeaning M)
workspace_reads metadata_of d = option_and_then (workspace_of metadata_of) (as_table d)

-- what may be wrong with a tree that is to be a workspace
unfoldable pub WorkspaceRefuses : {M : Type 0} → (Data → Option M) → Refusal → Refusal
WorkspaceRefuses metadata_of metadata_refuses d e =
    TableRefuses (WorkspaceFaults metadata_of metadata_refuses) (as_table d) e
