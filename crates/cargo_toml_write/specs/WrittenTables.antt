-- How the enums and settings that stand for one value, and products, profiles, lints and badges are
-- written, and which are read again as they were.
use Rattle.std.specs.Prelude.{List, ℕ, codes, pos, Bool, true, false, refl, ◌∷◌, ◌&&◌, is_none, []}
use Rattle.std.specs.Prelude.{◌≡◌, All}
use Rattle.std.specs.Ordering.{int_eq}
use Rattle.std.proofs.lemmas.Bool.{false≢true}
use Rattle.toml.specs.Data.{Data, string, integer, boolean}
use Rattle.cargo_toml_parts.specs.declared.profile_settings.DebugSetting.{DebugSetting}
use Rattle.cargo_toml_parts.specs.declared.profile_settings.DebugSetting.TheVariants as debug
use Rattle.cargo_toml_parts.specs.declared.profile_settings.LtoSetting.{LtoSetting}
use Rattle.cargo_toml_parts.specs.declared.profile_settings.LtoSetting.TheVariants as lto
use Rattle.cargo_toml_parts.specs.declared.profile_settings.StripSetting.{StripSetting}
use Rattle.cargo_toml_parts.specs.declared.profile_settings.StripSetting.TheVariants as strip
use Rattle.cargo_toml_parts.specs.declared.settings.Edition.{Edition}
use Rattle.cargo_toml_parts.specs.declared.settings.Resolver.{Resolver}
use Rattle.cargo_toml_parts.specs.Settings.{edition_text, resolver_text, File, flag, path}
use Rattle.cargo_toml_parts.specs.Settings.{Registries, everywhere, among}
use Rattle.cargo_toml_parts.specs.declared.badge.MaintenanceStatus.{MaintenanceStatus}
use Rattle.cargo_toml_parts.specs.declared.badge.MaintenanceStatus.TheVariants as status
use Rattle.cargo_toml_parts.specs.declared.lint.LintLevel.{LintLevel}
use Rattle.cargo_toml_parts.specs.declared.lint.LintLevel.TheVariants.{Allow, Warn, ForceWarn, Deny}
use Rattle.cargo_toml_parts.specs.declared.lint.LintLevel.TheVariants.{Forbid}
use Rattle.cargo_toml_parts.specs.Reads.{is_among}
use Rattle.cargo_toml_parts.specs.Products.{ProductMeaning}
use Rattle.cargo_toml_parts.specs.Profiles.{ProfileMeaning, ProfilesMeaning, profile_keys}
use Rattle.cargo_toml_parts.specs.Lints.{LintMeaning, lint_keys}
use Rattle.cargo_toml_parts.specs.Badges.{BadgeMeaning, BadgesMeaning}
use Rattle.cargo_toml_write.specs.Ways.{Part, by_part, exactly, part, text_way, texts_way}
use Rattle.cargo_toml_write.specs.Ways.{truth_way, word_way, flag_row, free_way, is_nil, map_way}
use Rattle.cargo_toml_write.specs.Ways.{number_way, over_way, plain_table_way, small_way, table_way}
use Rattle.cargo_toml_write.specs.Writes.{Way, Row, given_row, optional_row, required_row}

-- how an edition is written
abbrev pub edition_way : Way Edition
edition_way = word_way edition_text

-- how a resolver is written
abbrev pub resolver_way : Way Resolver
resolver_way = word_way resolver_text

-- the word of a level
abbrev pub level_text : LintLevel → List ℕ
level_text Allow = codes "allow"
level_text Warn = codes "warn"
level_text ForceWarn = codes "force-warn"
level_text Deny = codes "deny"
level_text Forbid = codes "forbid"

-- how a level is written
abbrev pub level_way : Way LintLevel
level_way = word_way level_text

-- the word of a status
abbrev pub status_text : MaintenanceStatus → List ℕ
status_text status.None = codes "none"
status_text status.ActivelyDeveloped = codes "actively-developed"
status_text status.PassivelyMaintained = codes "passively-maintained"
status_text status.AsIs = codes "as-is"
status_text status.Experimental = codes "experimental"
status_text status.LookingForMaintainer = codes "looking-for-maintainer"
status_text status.Deprecated = codes "deprecated"

-- how a status is written
abbrev pub status_way : Way MaintenanceStatus
status_way = word_way status_text

-- a file that is on or off, or its path; it is left out where it is on
abbrev pub file_part : File → Part
file_part (flag b) = part truth_way b
file_part (path p) = part text_way p

-- whether a file is on, as where its key is missing
abbrev pub is_usual : File → Bool
is_usual (flag b) = b
is_usual _ = false

-- how a file is written
abbrev pub file_way : Way File
file_way = record (by_part file_part true (λ is. elim [ flag b ↦ tt | path p ↦ tt ])) {
  left_out = is_usual;
}

-- everywhere or nowhere, or the registries; it is left out where it is everywhere
abbrev pub publish_part : Registries → Part
publish_part (everywhere b) = part truth_way b
publish_part (among names) = part texts_way names

-- whether it is everywhere, as where the key is missing
abbrev pub is_unrestricted : Registries → Bool
is_unrestricted (everywhere b) = b
is_unrestricted _ = false

-- how registries are written
abbrev pub publish_way : Way Registries
publish_way =
    record (by_part publish_part true
    (λ is. elim [ everywhere b ↦ tt | among names ↦ texts_way.nothing refl names ])) {
      left_out = is_unrestricted;
    }

-- the tree of a setting of `debug`
abbrev pub debug_tree : DebugSetting → Data
debug_tree debug.None = boolean false
debug_tree debug.Lines = integer (pos 1)
debug_tree debug.Full = boolean true

-- how a setting of `debug` is written
abbrev pub debug_way : Way DebugSetting
debug_way =
    exactly debug_tree (elim [ debug.None ↦ refl | debug.Lines ↦ refl | debug.Full ↦ refl ])

-- the tree of a setting of `strip`
abbrev pub strip_tree : StripSetting → Data
strip_tree strip.None = boolean false
strip_tree strip.Debuginfo = string (codes "debuginfo")
strip_tree strip.Symbols = boolean true

-- how a setting of `strip` is written
abbrev pub strip_way : Way StripSetting
strip_way =
    exactly strip_tree (elim [ strip.None ↦ refl | strip.Debuginfo ↦ refl | strip.Symbols ↦ refl ])

-- the tree of a setting of `lto`
abbrev pub lto_tree : LtoSetting → Data
lto_tree lto.None = string (codes "off")
lto_tree lto.ThinLocal = boolean false
lto_tree lto.Thin = string (codes "thin")
lto_tree lto.Fat = boolean true

-- how a setting of `lto` is written
abbrev pub lto_way : Way LtoSetting
lto_way =
    exactly lto_tree
    (elim [ lto.None ↦ refl | lto.ThinLocal ↦ refl | lto.Thin ↦ refl | lto.Fat ↦ refl ])

-- the rows of a product
abbrev pub product_rows : ProductMeaning → List Row
product_rows p =
    optional_row (codes "path") text_way p.path
    ∷ optional_row (codes "name") text_way p.name
    ∷ flag_row (codes "test") true p.test
    ∷ flag_row (codes "doctest") true p.doctest
    ∷ flag_row (codes "bench") true p.bench
    ∷ flag_row (codes "doc") true p.doc
    ∷ flag_row (codes "harness") true p.harness
    ∷ flag_row (codes "plugin") false p.plugin
    ∷ flag_row (codes "proc-macro") false p.proc_macro
    ∷ optional_row (codes "edition") edition_way p.edition
    ∷ given_row (codes "crate-type") texts_way p.crate_type
    ∷ required_row (codes "required-features") texts_way p.required_features
    ∷ []

-- how a product is written
abbrev pub product_way : Way ProductMeaning
product_way = plain_table_way product_rows (λ p. tt)

-- the rows of a profile
abbrev pub profile_rows : ProfileMeaning → List Row
profile_rows p =
    optional_row (codes "opt-level") free_way p.opt_level
    ∷ optional_row (codes "debug") debug_way p.debug
    ∷ optional_row (codes "split-debuginfo") text_way p.split_debuginfo
    ∷ optional_row (codes "rpath") truth_way p.rpath
    ∷ optional_row (codes "lto") lto_way p.lto
    ∷ optional_row (codes "debug-assertions") truth_way p.debug_assertions
    ∷ optional_row (codes "codegen-units") number_way p.codegen_units
    ∷ optional_row (codes "panic") text_way p.panic
    ∷ optional_row (codes "incremental") truth_way p.incremental
    ∷ optional_row (codes "overflow-checks") truth_way p.overflow_checks
    ∷ optional_row (codes "strip") strip_way p.strip
    ∷ given_row (codes "package") (map_way free_way) p.«package»
    ∷ optional_row (codes "build-override") free_way p.build_override
    ∷ optional_row (codes "inherits") text_way p.inherits
    ∷ []

-- how a profile is written
abbrev pub profile_way : Way ProfileMeaning
profile_way = table_way profile_rows

-- the profiles that Cargo knows
abbrev pub known_profiles : ProfilesMeaning → List Row
known_profiles p =
    optional_row (codes "release") profile_way p.release
    ∷ optional_row (codes "dev") profile_way p.dev
    ∷ optional_row (codes "test") profile_way p.test
    ∷ optional_row (codes "bench") profile_way p.bench
    ∷ optional_row (codes "doc") profile_way p.doc
    ∷ []

-- no profile
abbrev pub has_no_profile : ProfilesMeaning → Bool
has_no_profile p =
    is_none p.release
    && is_none p.dev
    && is_none p.test
    && is_none p.bench
    && is_none p.doc
    && is_nil p.custom

-- first those of other names, then those that Cargo knows, which are put over them
abbrev pub profiles_way : Way ProfilesMeaning
profiles_way = record (over_way profile_way (λ p. p.custom) known_profiles) {
  left_out = has_no_profile;
}

-- no collected profile has the name of one that Cargo knows
abbrev pub AreApart : ProfilesMeaning → Type 0
AreApart p = All (λ e. is_among profile_keys e.0 ≡ false) p.custom

-- the level says all of the lint
abbrev pub is_level_alone : LintMeaning → Bool
is_level_alone l = int_eq l.priority (pos 0) && is_nil l.config

-- what else is said of the lint, and the level and the priority put over it
abbrev pub lint_rows : LintMeaning → List Row
lint_rows l =
    required_row (codes "level") level_way l.level
    ∷ required_row (codes "priority") small_way l.priority
    ∷ []

-- how a lint is written as a table
abbrev pub table_lint_way : Way LintMeaning
table_lint_way = over_way free_way (λ l. l.config) lint_rows

-- a level, or a table
abbrev pub lint_part : Bool → LintMeaning → Part
lint_part true l = part level_way l.level
lint_part false l = part table_lint_way l

-- how a lint is written
abbrev pub lint_way : Way LintMeaning
lint_way = by_part (λ l. lint_part (is_level_alone l) l) false (λ is l. absurd (false≢true is))

-- the lints by tool
abbrev pub lint_groups_way : Way (List (List ℕ × List (List ℕ × LintMeaning)))
lint_groups_way = map_way (map_way lint_way)

-- the lint collected no key that has a field of its own, `level` or `priority`
abbrev pub IsApart : LintMeaning → Type 0
IsApart l = All (λ m. is_among lint_keys m.0 ≡ false) l.config

-- the rows of a badge
abbrev pub badge_rows : BadgeMeaning → List Row
badge_rows b =
    required_row (codes "repository") text_way b.repository
    ∷ required_row (codes "branch") text_way b.branch
    ∷ optional_row (codes "service") text_way b.service
    ∷ optional_row (codes "id") text_way b.id
    ∷ optional_row (codes "project-name") text_way b.project_name
    ∷ []

-- how a badge is written
abbrev pub badge_way : Way BadgeMeaning
badge_way = plain_table_way badge_rows (λ b. tt)

-- the rows of the maintenance
abbrev pub maintenance_rows : MaintenanceStatus → List Row
maintenance_rows s = required_row (codes "status") status_way s ∷ []

-- how the maintenance is written
abbrev pub maintenance_way : Way MaintenanceStatus
maintenance_way = plain_table_way maintenance_rows (λ s. tt)

-- the rows of badges
abbrev pub badges_rows : BadgesMeaning → List Row
badges_rows b =
    optional_row (codes "appveyor") badge_way b.appveyor
    ∷ optional_row (codes "circle-ci") badge_way b.circle_ci
    ∷ optional_row (codes "gitlab") badge_way b.gitlab
    ∷ optional_row (codes "travis-ci") badge_way b.travis_ci
    ∷ optional_row (codes "codecov") badge_way b.codecov
    ∷ optional_row (codes "coveralls") badge_way b.coveralls
    ∷ optional_row
    (codes "is-it-maintained-issue-resolution") badge_way b.is_it_maintained_issue_resolution
    ∷ optional_row (codes "is-it-maintained-open-issues") badge_way b.is_it_maintained_open_issues
    ∷ required_row (codes "maintenance") maintenance_way b.maintenance
    ∷ []

-- whether a status says nothing
abbrev pub is_unstated : MaintenanceStatus → Bool
is_unstated status.None = true
is_unstated _ = false

-- whether there is no badge of a service
abbrev pub has_no_service : BadgesMeaning → Bool
has_no_service b =
    is_none b.appveyor
    && is_none b.circle_ci
    && is_none b.gitlab
    && is_none b.travis_ci
    && is_none b.codecov
    && is_none b.coveralls

-- whether there is no badge at all
abbrev pub has_no_badge : BadgesMeaning → Bool
has_no_badge b =
    has_no_service b
    && is_none b.is_it_maintained_issue_resolution
    && is_none b.is_it_maintained_open_issues
    && is_unstated b.maintenance

-- how badges are written; they are left out where there is none
abbrev pub badges_way : Way BadgesMeaning
badges_way = record (plain_table_way badges_rows (λ b. tt)) { left_out = has_no_badge }
