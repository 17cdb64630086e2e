-- What is asked of a dependency.
use Rattle.std.specs.Prelude.{◌≡◌, ◌&&◌, ℕ, List, [], Bool, true, false}
use Rattle.std.specs.Prelude.{Option, Some, None, is_none, option_map, String}
use Rattle.std.specs.declared.alloc.Global.{Global}
use Rattle.toml.specs.Data.{no_members}
use Rattle.semver.specs.declared.VersionReq.{VersionReq}
use Rattle.cargo_toml_parts.specs.declared.error.Error.{Error, InheritedUnknownValue, Memory}
use Rattle.cargo_toml_package.specs.declared.dependency.Dependency.{Dependency}
use Rattle.cargo_toml_package.specs.declared.dependency.Dependency.TheVariants as kind
use Rattle.cargo_toml_package.specs.declared.dependency.DependencyDetail.{DependencyDetail}
use Rattle.cargo_toml_package.specs.Dependencies.{DetailMeaning, DependencyMeaning}
use Rattle.cargo_toml_package.specs.Dependencies.{detail_of_table, simple, inherited, detailed}

-- whether the dependency is `Inherited`, whatever its entry adds, and with `workspace = false` too
abbrev pub is_inherited : Dependency → Bool
is_inherited (kind.Inherited i) = true
is_inherited _ = false

-- the detail, where there is one
abbrev pub detail_at : Dependency → Option DependencyDetail
detail_at (kind.Simple r) = None
detail_at (kind.Inherited i) = None
detail_at (kind.Detailed b) = Some b.value

-- the requirement, where one is known; a detail may go without, which means any version
abbrev pub requirement_at : Dependency → Option VersionReq
requirement_at (kind.Simple r) = Some r
requirement_at (kind.Inherited i) = None
requirement_at (kind.Detailed b) = b.value.version

-- the features that are asked for beside the default ones
abbrev pub features_at : Dependency → List (String Global)
features_at (kind.Simple r) = []
features_at (kind.Inherited i) = i.features.items
features_at (kind.Detailed b) = b.value.features.items

-- the address of the repository, where a detail names it
abbrev pub git_of : DependencyMeaning → Option (List ℕ)
git_of (simple r) = None
git_of (inherited i) = None
git_of (detailed d) = d.git

-- the revision, where a detail names it
abbrev pub rev_of : DependencyMeaning → Option (List ℕ)
rev_of (simple r) = None
rev_of (inherited i) = None
rev_of (detailed d) = d.rev

-- whether nothing says that the crate comes from elsewhere than crates.io
abbrev pub names_no_source : DetailMeaning → Bool
names_no_source d =
    is_none d.path && is_none d.registry && is_none d.registry_index
    && is_none d.git && is_none d.tag && is_none d.branch && is_none d.rev

-- whether the crate comes from crates.io
abbrev pub is_from_crates_io : DependencyMeaning → Bool
is_from_crates_io (simple r) = true
is_from_crates_io (inherited i) = false
is_from_crates_io (detailed d) = names_no_source d

-- the detail that a dependency is given where it has none: that of an empty table,
-- with the requirement
abbrev pub made_detailed : DependencyMeaning → Option DetailMeaning
made_detailed (simple r) =
    option_map {T = DetailMeaning} (λ d. record d { version = Some r }) (detail_of_table no_members)
made_detailed (inherited i) = None
made_detailed (detailed d) = Some d

-- why there is no detail to write to: only a mere requirement needs memory, and only an
-- inherited one is unknown
abbrev pub RefusesDetail : Dependency → Error → Type 0
RefusesDetail (kind.Simple r) e = e ≡ Memory
RefusesDetail (kind.Inherited i) e = e ≡ InheritedUnknownValue
RefusesDetail (kind.Detailed b) e = ⊥
