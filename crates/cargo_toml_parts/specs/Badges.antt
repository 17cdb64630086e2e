-- What badges hold, and which tables are badges.
use Rattle.std.specs.Prelude.{ℕ, List, [], ◌∷◌, codes, Option, Some, None}
use Rattle.std.specs.Prelude.{option_map, option_and_then, string_bytes}
use Rattle.toml.specs.Data.{Data, Members, as_str, as_table, get_member}
use Rattle.cargo_toml_parts.specs.declared.badge.Badge.{Badge}
use Rattle.cargo_toml_parts.specs.declared.badge.Badges.{Badges}
use Rattle.cargo_toml_parts.specs.declared.badge.MaintenanceStatus.{MaintenanceStatus}
use Rattle.cargo_toml_parts.specs.declared.badge.MaintenanceStatus.TheVariants as status
use Rattle.cargo_toml_parts.specs.Reads.{◌>>=◌, required_at, text_at, given_of}
use Rattle.cargo_toml_parts.specs.Settings.{named}

-- the maintenance status that a text names
abbrev pub status_of : Data → Option MaintenanceStatus
status_of d = option_and_then (named (
    (codes "none", status.None)
    ∷ (codes "actively-developed", status.ActivelyDeveloped)
    ∷ (codes "passively-maintained", status.PassivelyMaintained)
    ∷ (codes "as-is", status.AsIs)
    ∷ (codes "experimental", status.Experimental)
    ∷ (codes "looking-for-maintainer", status.LookingForMaintainer)
    ∷ (codes "deprecated", status.Deprecated) ∷ [])) (as_str d)

-- the maintenance status of a table: its key `status`, which must be there
abbrev pub maintenance_of : Members → Option MaintenanceStatus
maintenance_of ms = required_at "status" status_of ms

-- the maintenance status of a tree
abbrev pub maintenance_reads : Data → Option MaintenanceStatus
maintenance_reads d = option_and_then maintenance_of (as_table d)

-- a repository, and how a service shows its state
pub record BadgeMeaning : Type 0 where
  pub repository : List ℕ
  pub branch : List ℕ
  pub service : Option (List ℕ)
  pub id : Option (List ℕ)
  pub project_name : Option (List ℕ)

-- what a badge holds
abbrev pub badge_meaning : Badge → BadgeMeaning
badge_meaning b = record {
  repository = string_bytes b.repository;
  branch = string_bytes b.branch;
  service = option_map string_bytes b.service;
  id = option_map string_bytes b.id;
  project_name = option_map string_bytes b.project_name;
}

-- the branch; missing: `master`
abbrev pub branch_of : Option Data → Option (List ℕ)
branch_of o = given_of as_str (codes "master") o

-- the badge of a table
abbrev pub badge_of : Members → Option BadgeMeaning
badge_of ms = do
  repository ← required_at "repository" as_str ms
  branch ← branch_of (get_member (codes "branch") ms)
  service ← text_at "service" ms
  id ← text_at "id" ms
  project_name ← text_at "project-name" ms
  Some (record {
    repository = repository;
    branch = branch;
    service = service;
    id = id;
    project_name = project_name;
  })

-- the badge of a tree
abbrev pub badge_reads : Data → Option BadgeMeaning
badge_reads d = option_and_then badge_of (as_table d)

-- the badges that Cargo knows
pub record BadgesMeaning : Type 0 where
  pub appveyor : Option BadgeMeaning
  pub circle_ci : Option BadgeMeaning
  pub gitlab : Option BadgeMeaning
  pub travis_ci : Option BadgeMeaning
  pub codecov : Option BadgeMeaning
  pub coveralls : Option BadgeMeaning
  pub is_it_maintained_issue_resolution : Option BadgeMeaning
  pub is_it_maintained_open_issues : Option BadgeMeaning
  pub maintenance : MaintenanceStatus

-- what all badges hold
abbrev pub badges_meaning : Badges → BadgesMeaning
badges_meaning b = record {
  appveyor = option_map badge_meaning b.appveyor;
  circle_ci = option_map badge_meaning b.circle_ci;
  gitlab = option_map badge_meaning b.gitlab;
  travis_ci = option_map badge_meaning b.travis_ci;
  codecov = option_map badge_meaning b.codecov;
  coveralls = option_map badge_meaning b.coveralls;
  is_it_maintained_issue_resolution = option_map badge_meaning b.is_it_maintained_issue_resolution;
  is_it_maintained_open_issues = option_map badge_meaning b.is_it_maintained_open_issues;
  maintenance = b.maintenance.status;
}

-- a badge that is missing or does not read is none
abbrev pub badge_at : List ℕ → Members → Option BadgeMeaning
badge_at key ms = option_and_then badge_reads (get_member key ms)

-- the status, and `none` where there isn't one
abbrev pub or_none : Option MaintenanceStatus → MaintenanceStatus
or_none (Some s) = s
or_none None = status.None

-- the maintenance status at a key, and `none` where it is missing or doesn't read
abbrev pub maintenance_at : List ℕ → Members → MaintenanceStatus
maintenance_at key ms = or_none (option_and_then maintenance_reads (get_member key ms))

-- the badges of a table: one that doesn't read is left out
abbrev pub badges_of : Members → BadgesMeaning
badges_of ms = record {
  appveyor = badge_at (codes "appveyor") ms;
  circle_ci = badge_at (codes "circle-ci") ms;
  gitlab = badge_at (codes "gitlab") ms;
  travis_ci = badge_at (codes "travis-ci") ms;
  codecov = badge_at (codes "codecov") ms;
  coveralls = badge_at (codes "coveralls") ms;
  is_it_maintained_issue_resolution = badge_at (codes "is-it-maintained-issue-resolution") ms;
  is_it_maintained_open_issues = badge_at (codes "is-it-maintained-open-issues") ms;
  maintenance = maintenance_at (codes "maintenance") ms;
}
