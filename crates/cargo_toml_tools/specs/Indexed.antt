-- Which crates an index takes, and what it refuses of others.
use Rattle.std.specs.Prelude.{◌++◌, ◌&&◌, ◌||◌, Bool, true, false, if◌then◌else◌, not, List, []}
use Rattle.std.specs.Prelude.{◌∷◌, Option, Some, None, is_none, is_some, map, bytes_eq, codes}
use Rattle.std.specs.Prelude.{◌==◌, ◌^◌, length, nat_lt, option_and_then, option_map, slice_get}
use Rattle.std.specs.Prelude.{slice_index}
use Rattle.std.specs.Prelude.{unwrap_or}
use Rattle.std.specs.Str.Parse.{digits_value}
use Rattle.std.specs.List.{flat_map, list_all, list_any, slice_split}
use Rattle.std.specs.{Char.is_ascii_digit, Option.option_map_or, Option.option_or}
use Rattle.semver.specs.{Identifiers.parts_text, Parse.Held}
use Rattle.toml.specs.Data.{Data, Members, as_bool, as_table, get_member, no_members}
use Rattle.toml.specs.Parse.{parse_document}
use Rattle.cargo_toml.specs.Dependencies.{DependencyMeaning, simple, inherited, detailed}
use Rattle.cargo_toml.specs.Kind.TheVariants.{Build, Dev, Normal}
use Rattle.cargo_toml.specs.Settings.{Registries, among, everywhere}
use Rattle.cargo_toml.specs.{Inheritable.TheVariants.Inherited, Inheritable.TheVariants.Set}
use Rattle.cargo_toml.specs.{InheritedDependencies.Entries, InheritedDependencies.is_left}
use Rattle.cargo_toml.specs.{Manifests.ManifestMeaning, Manifests.is_zero, Action.Text}
use Rattle.cargo_toml.specs.{Inheritable.Inheritable, InheritableValues.value_of, Kind.Kind}
use Rattle.cargo_toml.specs.Action.{without_end, without_start}
use Rattle.cargo_toml.specs.{Packages.PackageMeaning, Targets.TargetMeaning, Versions.Parts}
use Rattle.cargo_toml_parts.specs.declared.settings.Edition.{Edition, TheVariants.E2024}
use Rattle.cargo_toml_lint.specs.{Findings.code_level, declared.finding.Finding.Finding}
use Rattle.cargo_toml_lint.specs.{Taken.may_name, declared.finding.Level.Level}
use Rattle.cargo_toml_lint.specs.declared.finding.Level.TheVariants.{Error}
use Rattle.cargo_toml_tools.specs.Platforms.{is_target}
use Rattle.cargo_toml_tools.specs.declared.index.refusals.Fault.{Fault}
use Rattle.cargo_toml_tools.specs.declared.index.refusals.Fault.TheVariants as fault

-- ---- tables of dependencies

-- three tables of dependencies with their kinds: those of a package, or of a target
abbrev pub with_kinds : Entries → Entries → Entries → List (Kind × Entries)
with_kinds normal dev build = (Normal, normal) ∷ (Dev, dev) ∷ (Build, build) ∷ []

abbrev pub target_by_kind : TargetMeaning → List (Kind × Entries)
target_by_kind t = with_kinds t.dependencies t.dev_dependencies t.build_dependencies

-- all tables of a package, and those of targets behind them
abbrev pub all_by_kind : {M : Type 0} → ManifestMeaning M → List (Kind × Entries)
all_by_kind m =
    with_kinds m.dependencies m.dev_dependencies m.build_dependencies
    ++ flat_map (λ t. target_by_kind t.1) m.target

-- the document that a text is, and an empty one where it is none
abbrev pub written : Text → Members
written text = unwrap_or (parse_document text) no_members

-- the table of a key in another
abbrev pub table_in : Text → Members → Option Members
table_in key ms = option_and_then as_table (get_member key ms)

-- the table in which the tables of a target are written
abbrev pub place_of : Members → Text → Option Members
place_of document target = option_and_then (table_in target) (table_in (codes "target") document)

abbrev pub table_name : Kind → Text
table_name Normal = codes "dependencies"
table_name Dev = codes "dev-dependencies"
table_name Build = codes "build-dependencies"

-- a name, where something is written under it
abbrev pub name_in : Text → Members → Option Text
name_in name ms = option_map (λ d. name) (get_member name ms)

-- the name with `_` for `-` under which a table is written: Cargo reads it, too, and the library
-- doesn't
abbrev pub other_name : Option Members → Kind → Option Text
other_name place Normal = None
other_name place Dev = option_and_then (name_in (codes "dev_dependencies")) place
other_name place Build = option_and_then (name_in (codes "build_dependencies")) place

-- a table of dependencies: its kind and target, how it is written, and what it holds
pub record DependencyTable : Type 0 where
  pub kind : Kind
  pub target : Option Text
  pub written : Option Members
  pub other_name : Option Text
  pub entries : Entries

abbrev pub table_at : Option Text → Option Members → Kind → Entries → DependencyTable
table_at target place kind entries = record {
  kind = kind;
  target = target;
  written = option_and_then (table_in (table_name kind)) place;
  other_name = other_name place kind;
  entries = entries;
}

abbrev pub tables_at : Option Text → Option Members → List (Kind × Entries) → List DependencyTable
tables_at target place ts = map (λ t. table_at target place t.0 t.1) ts

-- those of a target, in the order in which Cargo writes them
abbrev pub target_tables : Members → Text × TargetMeaning → List DependencyTable
target_tables document t =
    tables_at (Some t.0) (place_of document t.0)
    ((Normal, t.1.dependencies) ∷ (Build, t.1.build_dependencies)
    ∷ (Dev, t.1.dev_dependencies) ∷ [])

-- those of a manifest that was read from the document
abbrev pub dependency_tables : {M : Type 0} → Members → ManifestMeaning M → List DependencyTable
dependency_tables document m =
    tables_at None (Some document)
    (with_kinds m.dependencies m.dev_dependencies m.build_dependencies)
    ++ flat_map (target_tables document) m.target

-- what is written under a key in the entry of a dependency
abbrev pub written_flag : Option Members → Text → Text → Option Data
written_flag table dependency key =
    option_and_then (get_member key) (option_and_then (table_in dependency) table)

-- the default features are asked for: by the dependency as it is completed, or as it is written
abbrev pub has_default : Option Members → Text → DependencyMeaning → Bool
has_default table key (detailed d) =
    d.default_features
    || unwrap_or (option_and_then as_bool (written_flag table key (codes "default-features"))) false
has_default table key other = true

-- ---- registries

abbrev pub crates_io : Text
crates_io = codes "https://github.com/rust-lang/crates.io-index"

-- the address of the index of the registry with a name
abbrev pub address_named : List (Text × Text) → Text → Option Text
address_named [] name = if bytes_eq name (codes "crates-io") then Some crates_io else None
address_named (known ∷ names) name =
    if bytes_eq known.0 name then Some known.1 else address_named names name

abbrev pub address_of : List (Text × Text) → Option Text → Option Text → Option Text
address_of names (Some address) name = Some address
address_of names None (Some name) = address_named names name
address_of names None None = Some crates_io

-- the address of the index that a dependency is looked for in, where that is known
abbrev pub source_of : List (Text × Text) → DependencyMeaning → Option Text
source_of names (detailed d) = address_of names d.registry_index d.registry
source_of names other = Some crates_io

-- an address without `sparse+` in front and a last `/`, which don't count
abbrev pub bare : Text → Text
bare address = without_end (codes "/") (without_start (codes "sparse+") address)

abbrev pub is_same : Text → Text → Bool
is_same one other = bytes_eq (bare one) (bare other)

-- an address, unless it is the registry's own
abbrev pub elsewhere : Text → Option Text → Option Text
elsewhere own None = None
elsewhere own (Some address) = if is_same address own then None else Some address

-- what a line is asked for
pub record Wanted : Type 0 where
  pub registry : Text
  pub names : List (Text × Text)
  pub checksum : Option Text
  pub folder : Option Text
  pub force : Bool

-- ---- refusals

-- what an index doesn't take, and what is at fault: a key, a name, or the text of a `rust-version`.
-- Of another crate it is both names. It is empty for a package that is missing, its name, its
-- version, and publishing
abbrev pub Refusal : Type 0
Refusal = Fault × Text

abbrev pub refuse_if : Bool → Fault → Text → Option Refusal
refuse_if is_refused fault subject = if is_refused then Some (fault, subject) else None

-- the first refusal of some elements
abbrev pub first_refusal : {A : Type 0} → (A → Option Refusal) → List A → Option Refusal
first_refusal refusal [] = None
first_refusal refusal (x ∷ xs) = option_or (refusal x) (first_refusal refusal xs)

-- the requirement on the version, if there is one
abbrev pub required_version : DependencyMeaning → Option (List Held)
required_version (simple r) = Some r
required_version (inherited i) = None
required_version (detailed d) = d.version

-- a dependency for tests that has a path or a repository, and no version, is left out
abbrev pub is_left_out : Kind → DependencyMeaning → Bool
is_left_out Dev (detailed d) = is_none d.version && (is_some d.path || is_some d.git)
is_left_out kind other = false

-- a dependency, or what it inherits, has this key, which the library doesn't read
abbrev pub keeps : Text → DependencyMeaning → Bool
keeps key (detailed d) = list_any (λ e. bytes_eq key e.0) d.unstable
keeps key other = false

-- `default_features`, which Cargo reads as `default-features`, in an entry or in what it inherits
abbrev pub has_other_flag : Option Members → Text → DependencyMeaning → Bool
has_other_flag table key d =
    is_some (written_flag table key (codes "default_features"))
    || keeps (codes "default_features") d

-- the dependency is on artifacts, which stable Cargo refuses
abbrev pub is_artifact : DependencyMeaning → Bool
is_artifact d = keeps (codes "artifact") d || keeps (codes "lib") d || keeps (codes "target") d

-- an entry turns off the default features that its workspace asks for
abbrev pub turns_off : Option Members → Text → DependencyMeaning → Bool
turns_off table key d = has_default table key d && not (unwrap_or
    (option_and_then as_bool (written_flag table key (codes "default-features"))) true)

-- edition 2024, in which Cargo refuses that
abbrev pub is_2024 : Inheritable Edition → Bool
is_2024 (Set E2024) = true
is_2024 other = false

-- the refusal of a dependency, which stands under its key
abbrev pub entry_refusal : Wanted → Bool → DependencyTable → Text × DependencyMeaning
    → Option Refusal
entry_refusal w in_2024 t e =
    if is_left e.1 then Some (fault.Incomplete, e.0)
    else if has_other_flag t.written e.0 e.1 then Some (fault.OtherFlag, e.0)
    else if is_artifact e.1 then Some (fault.Artifact, e.0)
    else if in_2024 && turns_off t.written e.0 e.1 then Some (fault.TurnsOff, e.0)
    else if is_left_out t.kind e.1 then None
    else if is_none (required_version e.1) then Some (fault.NoRequirement, e.0)
    else if is_none (source_of w.names e.1) then Some (fault.NoAddress, e.0)
    else refuse_if (is_same w.registry crates_io
    && is_some (elsewhere crates_io (source_of w.names e.1))) fault.OtherRegistry e.0

abbrev pub target_refusal : Option Text → Option Refusal
target_refusal None = None
target_refusal (Some name) = refuse_if (not (is_target name)) fault.BadTarget name

abbrev pub table_refusal : Wanted → Bool → DependencyTable → Option Refusal
table_refusal w in_2024 t =
    option_or
    (option_or (target_refusal t.target)
    (option_map (λ name. (fault.OtherTable, name)) t.other_name))
    (first_refusal (entry_refusal w in_2024 t) t.entries)

-- what the table `package` has under a key
abbrev pub in_package : Text → Members → Option Data
in_package key ms = option_and_then (get_member key) (table_in (codes "package") ms)

-- the refusal of the version. One that isn't written reads as 0.0.0
abbrev pub version_refusal : Members → Inheritable Parts → Option Refusal
version_refusal document Inherited = Some (fault.Incomplete, codes "version")
version_refusal document (Set v) =
    refuse_if (is_zero (Set v) && is_none (in_package (codes "version") document))
    fault.NoVersion []

-- a zero stands in front of another byte
abbrev pub is_padded : Text → Bool
is_padded ds = nat_lt 1 (length ds) && slice_index ds 0 == 48

-- decimal digits, of a number of 64 bits
abbrev pub is_u64 : Text → Bool
is_u64 ds =
    list_all is_ascii_digit ds && (nat_lt 0 (length ds) && nat_lt (digits_value 10 ds) (2 ^ 64))

abbrev pub is_number : Text → Bool
is_number ds = not (is_padded ds) && is_u64 ds

-- one to three numbers, with dots between: there is no fourth part
abbrev pub are_numbers : Text → Bool
are_numbers text =
    let parts = slice_split (λ b. b == 46) text in
    is_none (slice_get parts 3) && list_all is_number parts

-- the refusal of the version of Rust. Cargo takes one with spaces around, too
abbrev pub rust_refusal : Option (Inheritable Text) → Option Refusal
rust_refusal None = None
rust_refusal (Some Inherited) = Some (fault.Incomplete, codes "rust-version")
rust_refusal (Some (Set text)) = refuse_if (not (are_numbers text)) fault.OddRust text

-- a name is that of the registry with this address
abbrev pub is_named : Text → List (Text × Text) → Text → Bool
is_named own names name =
    option_map_or (λ address. is_same address own) (address_named names name) false

-- nothing is written of publishing, or that it is wanted. A package of version 0.0.0 reads as not
-- published all the same
abbrev pub is_open : Members → Bool
is_open document =
    option_map_or (λ d. unwrap_or (as_bool d) false) (in_package (codes "publish") document) true

abbrev pub is_published : Wanted → Members → Registries → Bool
is_published w document (everywhere b) = b || is_open document
is_published w document (among ns) = list_any (is_named w.registry w.names) ns

abbrev pub publish_refusal : Wanted → Members → Inheritable Registries → Option Refusal
publish_refusal w document Inherited = Some (fault.Incomplete, codes "publish")
publish_refusal w document (Set r) =
    refuse_if (not (is_published w document r)) fault.NotPublished []

abbrev pub is_error : Level → Bool
is_error Error = true
is_error other = false

-- the refusal of what lint finds
abbrev pub finding_refusal : Finding → Option Refusal
finding_refusal x = refuse_if (is_error (code_level x.code)) fault.Features x.feature.now

-- the refusal of the name or the version of a package
abbrev pub naming_refusal : {M : Type 0} → Members → PackageMeaning M → Option Refusal
naming_refusal document p =
    option_or (refuse_if (not (may_name false p.name)) fault.BadName [])
    (version_refusal document p.version)

-- the name of the folder that the archive of a package unpacks to
abbrev pub folder_of : {M : Type 0} → PackageMeaning M → Option Text
folder_of p = option_map (λ v. p.name ++ codes "-" ++ parts_text v) (value_of p.version)

-- the refusal of a folder with another name, which tells both
abbrev pub folder_refusal : Option Text → Option Text → Option Refusal
folder_refusal (Some folder) (Some own) =
    refuse_if (not (bytes_eq folder own)) fault.OtherCrate (folder ++ codes ", " ++ own)
folder_refusal folder own = None

-- the first refusal of a package that is well named. What isn't published in the registry, or has
-- features at fault, may be forced
abbrev pub package_refusal : {M : Type 0} → Wanted → List Finding → Members
    → List DependencyTable → PackageMeaning M → Option Refusal
package_refusal w findings document ts p =
    option_or
    (option_or (first_refusal (table_refusal w (is_2024 p.edition)) ts)
    (rust_refusal p.rust_version))
    (if w.force then None
    else option_or (publish_refusal w document p.publish) (first_refusal finding_refusal findings))

-- why an index doesn't take the crate of a manifest, which was read from the text, where lint finds
-- this of it; `None` where it takes it
abbrev pub refusal_of : {M : Type 0} → Wanted → List Finding → Text → ManifestMeaning M
    → Option Refusal
refusal_of w findings text m = option_map_or
    (λ p. option_or (naming_refusal (written text) p)
    (option_or (folder_refusal w.folder (folder_of p))
    (package_refusal w findings (written text) (dependency_tables (written text) m) p)))
    m.«package» (Some (fault.NoPackage, []))
