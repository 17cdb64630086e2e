-- Written settings, tables, dependencies, packages, workspaces and manifests, each read as what it is read again as.
use Rattle.cargo_toml_write.proofs.Cited.{AllByRecursion, Allow, AreApart, AreReadAgain, AreTold, AreWritten, Ascend, BadgeMeaning, BadgesMeaning, Bool, CanBeRead, Data, Decides-int_eq, Deny, DependencyAgain, DependencyMeaning, Detail, DetailAgain, DetailMeaning, E2015, E2018, E2021, E2024, EachValue, Err, Error, FeaturesMeaning, File, Forbid, ForceWarn, Held, IfSet, IfSome, Inheritable, InheritedMeaning, IsApart, IsHeld, IsMap, IsStrictlySortedBy, IsTold, IsTrue}
use Rattle.cargo_toml_write.proofs.Cited.{IsVersionAgain, IsWriting, Items, Less, LintLevel, LintMeaning, List, MaintenanceStatus, Manifest, ManifestMeaning, Members, MetadataAgain, None, Ok, Option, Package, PackageMeaning, Parts, ProductMeaning, ProfilesMeaning, Registries, Result, Some, TargetMeaning, TargetMeets, TemplateAgain, TemplateMeaning, V1, V2, V3, Value, VersionAgain, Warn, Way, Workspace, WorkspaceMeaning, WorkspaceMeets}
use Rattle.cargo_toml_write.proofs.Cited.{[], all_features, all_of, among, and_parts, ap, apart, arith, array, array_of, as_bool, as_str, as_table, badge_of, badge_reads, badge_rows, badge_way, badges_of, badges_reads, badges_rows, badges_way, bytes_eq, bytes_eq-Decides, codes, cond, debug_of, debug_tree, debug_way, dependencies_way, dependency_of, dependency_way, detail_keys, detail_of_table, detail_reads, detail_under, detail_way}
use Rattle.cargo_toml_write.proofs.Cited.{detailed, details_of, each_value, edition_reads, edition_text, edition_way, either_flag, everywhere, false, false≢true, feature_of, feature_way, features_in, features_of, features_way, file_of, file_way, flag, free_way, get_member, given_of, has_no_badge, has_no_profile, i8_of, inheritable_map, inheritable_of, inheritable_way, inherited, inherited_of, inherited_or, inherited_reads}
use Rattle.cargo_toml_write.proofs.Cited.{inherited_rows, inherited_way, inl, inr, is_among, is_eq, is_eq-slice_cmp, is_level_alone, is_nil, is_plain, is_unrestricted, is_usual, keys_of, known_profiles, known_rows, level_alone, level_of, level_text, level_way, lint_groups_way, lint_keys, lint_of, lint_part, lint_rows, lint_way, list_of, list_way, lists_of, lto_of, lto_tree, lto_way, maintenance_of, maintenance_reads, maintenance_rows}
use Rattle.cargo_toml_write.proofs.Cited.{maintenance_way, manifest_meaning, manifest_of, manifest_reads, manifest_rows, manifest_way, map, map_of, map_way, members_of, nat_cmp, nat_list_cmp_total, no_badges, no_detail, no_features, no_members, no_profiles, not, number_way, option_and_then, option_map, optional_of, or_none, ordering_reverse, others_read, package_meaning, package_of_table, package_reads, package_rows, package_way}
use Rattle.cargo_toml_write.proofs.Cited.{parts_of, path, plain_detail, product_of, product_reads, product_rows, product_way, profile_keys, profile_of, profile_reads, profile_rows, profile_way, profiles_of, profiles_reads, profiles_way, publish_of, publish_way, recursion_from_All, refl, required_at, required_of, requirement_of, requirement_way, reread, reread_dependency, reread_target, reread_workspace, resolver_reads, resolver_text}
use Rattle.cargo_toml_write.proofs.Cited.{resolver_way, result_ok, simple, slice_cmp, small_way, status_of, status_text, status_way, stops, strict_of, string, strip_of, strip_tree, strip_way, subst, sym, table, table_feature, table_lint, target_of, target_reads, target_rows, target_way, template_of, template_reads, template_rows, template_way, text_way, texts_way, told, told_features, told_rows, told_way, true, truth_way, u16_of}
use Rattle.cargo_toml_write.proofs.Cited.{unless_missing, version_of, version_way, view, workspace_meaning, workspace_of, workspace_reads, workspace_rows, workspace_way, ℕ, ◌∙◌, ◌∷◌, ◌≡◌}
use Rattle.cargo_toml_write.proofs.ReadAgain.{Again, AgainAs, AllHeld, Any, FirstHeld, ReadsAs, StandsAt, StandsFor, again, alone, collected, first_held, flagged, free_again, free_maps, given, inheritable_again, list_again, map_as, map_same, nil, nil_left, nil_map, other_member, read_back, required, same_tree, set_stands, step, table_again, text_again, texts_again, truth_again, untouched, version_again, whole}
use Rattle.cargo_toml_write.proofs.ReadParts.{AreNamed, AreSaid, Gives, bind, gives_some, skip}
use Rattle.cargo_toml_write.proofs.Spelled.{spelled_again}
use Rattle.cargo_toml_parts.specs.declared.profile_settings.DebugSetting.TheVariants as debug
use Rattle.cargo_toml_parts.specs.declared.profile_settings.LtoSetting.TheVariants as lto
use Rattle.cargo_toml_parts.specs.declared.profile_settings.StripSetting.TheVariants as strip
use Rattle.cargo_toml_parts.specs.declared.badge.MaintenanceStatus.TheVariants as status

-- editions, resolvers, files, registries, numbers and settings of profiles
pub edition_again : Again edition_way edition_reads
edition_again = same_tree (λ x. string (edition_text x)) (λ x. refl) edition_reads (elim [ E2015 ↦ refl | E2018 ↦ refl | E2021 ↦ refl | E2024 ↦ refl ])

pub resolver_again : Again resolver_way resolver_reads
resolver_again = same_tree (λ x. string (resolver_text x)) (λ x. refl) resolver_reads (elim [ V1 ↦ refl | V2 ↦ refl | V3 ↦ refl ])

pub file_again : Again file_way file_of
file_again = again (elim [ flag b ↦ λ d is. ap file_of is | path p ↦ λ d is. ap file_of is ])

pub usual_file : StandsFor is_usual Any (λ (x : File). x) (flag true)
usual_file = record { each = elim [ flag b ↦ λ h usual. ap flag usual | path p ↦ λ h usual. absurd cc ] }

published_again : (x : Registries) → ReadsAs publish_way publish_of x x
published_again (everywhere b) d is = ap publish_of is
published_again (among names) d (ds, is, items) = ap publish_of is ∙ ap (option_map among) (texts_again.each names tt _ (ds, refl, items))

pub publish_again : Again publish_way publish_of
publish_again = again published_again

pub published_everywhere : StandsFor is_unrestricted Any (λ (x : Registries). x) (everywhere true)
published_everywhere = record { each = elim [ everywhere b ↦ λ h free. ap everywhere free | among names ↦ λ h free. absurd cc ] }

pub number_again : Again number_way u16_of
number_again = again (λ n d (fits, is). ap u16_of is ∙ fits)

pub small_again : Again small_way i8_of
small_again = again (λ z d (fits, is). ap i8_of is ∙ fits)

pub debug_again : Again debug_way debug_of
debug_again = same_tree debug_tree _ debug_of (elim [ debug.None ↦ refl | debug.Lines ↦ refl | debug.Full ↦ refl ])

pub strip_again : Again strip_way strip_of
strip_again = same_tree strip_tree _ strip_of (elim [ strip.None ↦ refl | strip.Debuginfo ↦ refl | strip.Symbols ↦ refl ])

pub lto_again : Again lto_way lto_of
lto_again = same_tree lto_tree _ lto_of (elim [ lto.None ↦ refl | lto.ThinLocal ↦ refl | lto.Thin ↦ refl | lto.Fat ↦ refl ])

pub ruleset values_back = (read_back, text_again, truth_again, texts_again, free_again, nil, edition_again, resolver_again, file_again, usual_file, publish_again, published_everywhere)

-- products
-- a truth value of which the other spelling is missing
spelling : (o other : Option Data) (b : Bool) → other ≡ None → given_of as_bool false o ≡ Some b → either_flag o other ≡ Some b
spelling o other b h1 h2 = grind arith

one_spelling : (o other : Option Data) (r : Option ProductMeaning) (b : Bool) (f : Bool → Option ProductMeaning) → StandsAt o truth_way (unless_missing false b) → other ≡ None → f b ≡ r → option_and_then f (either_flag o other) ≡ r
one_spelling o other r b f held none rest = step (either_flag o other) f b r (spelling o other b none (flagged false b o held)) rest

pub product_again : Again product_way product_reads
product_again = again (table_again product_rows product_of (λ p. refl) (λ p ms written held.
    let other : get_member (codes "proc_macro") ms ≡ None = untouched (codes "proc_macro") (product_rows p) no_members ms refl written in
    search (values_back, one_spelling) depth 40 fits 4000))

-- badges, and how a package is cared for
pub badge_again : Again badge_way badge_reads
badge_again = again (table_again badge_rows badge_of (λ b. refl) (λ b ms written held. search values_back depth 20))

status_again : Again status_way status_of
status_again = same_tree (λ x. string (status_text x)) (λ x. refl) status_of (elim [
  | status.None ↦ refl
  | status.ActivelyDeveloped ↦ refl
  | status.PassivelyMaintained ↦ refl
  | status.AsIs ↦ refl
  | status.Experimental ↦ refl
  | status.LookingForMaintainer ↦ refl
  | status.Deprecated ↦ refl
])

pub maintenance_again : Again maintenance_way maintenance_reads
maintenance_again = again (table_again maintenance_rows maintenance_of (λ s. refl) (λ s ms written held. required (get_member (codes "status") ms) (Some s) s held.0 status_again tt))

-- all badges: one that is not there is none
badge_or_none : (x : Option BadgeMeaning) (o : Option Data) → StandsAt o badge_way x → option_and_then badge_reads o ≡ x
badge_or_none x o h1 = grind (arith, badge_again)

status_read : (s : MaintenanceStatus) (o : Option Data) → StandsAt o maintenance_way (Some s) → or_none (option_and_then maintenance_reads o) ≡ s
status_read s o h1 = grind (arith, maintenance_again)

badges_members : (b : BadgesMeaning) (ms : Members) → AllHeld (badges_rows b) ms → Some (badges_of ms) ≡ Some b
badges_members b ms h1 = grind (arith, badge_or_none, status_read)

pub badges_again : Again badges_way badges_reads
badges_again = again (table_again badges_rows (λ ms. Some (badges_of ms)) (λ b. refl) (λ b ms written. badges_members b ms))

pub no_badge : StandsFor has_no_badge Any (λ (b : BadgesMeaning). b) no_badges
no_badge = record { each = λ b h none. grind arith }

-- profiles
pub profile_again : Again profile_way profile_reads
profile_again = again (table_again profile_rows profile_of (λ p. refl) (λ p ms written held.
    search (values_back, debug_again, strip_again, lto_again, number_again, free_maps) depth 50 fits 4000))

profiles_members : (p : ProfilesMeaning) (old ms : Members) → AreApart p → IsMap profile_way p.custom old → AreWritten (known_profiles p) old ms → profiles_of ms ≡ Some p
profiles_members p old ms apart map written =
    let read = collected profile_way profile_reads profile_keys p.custom (known_profiles p) old ms profile_again apart map refl refl written in
    search (read_back, profile_again, step) depth 30 fits 4000

pub profiles_again : AgainAs profiles_way profiles_reads AreApart (λ (p : ProfilesMeaning). p)
profiles_again = record { each = λ p apart d (old, ms, is, map, written). rw is (profiles_members p old ms apart map written) }

pub no_profile : StandsFor has_no_profile AreApart (λ (p : ProfilesMeaning). p) no_profiles
no_profile = record { each = λ p h none. grind arith }

-- lints
pub level_again : Again level_way level_of
level_again = same_tree (λ x. string (level_text x)) (λ x. refl) level_of (elim [ Allow ↦ refl | Warn ↦ refl | ForceWarn ↦ refl | Deny ↦ refl | Forbid ↦ refl ])

alone_again : (x : LintLevel) → lint_of (string (level_text x)) ≡ Some (level_alone x)
alone_again = elim [ Allow ↦ refl | Warn ↦ refl | ForceWarn ↦ refl | Deny ↦ refl | Forbid ↦ refl ]

is_alone : (l : LintMeaning) → is_level_alone l ≡ true → level_alone l.level ≡ l
is_alone l h1 = grind (arith, and_parts, nil_left, Decides-int_eq)

lint_members : (l : LintMeaning) (old ms : Members) → IsApart l → IsMap free_way l.config old → AreWritten (lint_rows l) old ms → table_lint ms ≡ Some l
lint_members l old ms apart map written =
    let read = collected free_way (λ d. Some d) lint_keys l.config (lint_rows l) old ms free_again apart map refl refl written in
    search (read_back, level_again, small_again, step) depth 30 fits 4000

lint_either : (b : Bool) (l : LintMeaning) (d : Data) → b ≡ is_level_alone l → IsApart l → (lint_part b l).way.trees (lint_part b l).value d → lint_of d ≡ Some l
lint_either true l d alone apart is = ap lint_of is ∙ alone_again l.level ∙ ap Some (is_alone l (sym alone))
lint_either false l d alone apart (old, ms, is, map, written) = ap lint_of is ∙ lint_members l old ms apart map written

pub lint_again : AgainAs lint_way lint_of IsApart (λ (l : LintMeaning). l)
lint_again = record { each = λ l apart d tree. lint_either (is_level_alone l) l d refl apart tree }

-- a lint that is written as its level, or as its table
pub lint_writing : (b : Bool) (l : LintMeaning) (r : Result Value Error) → is_level_alone l ≡ b → IsWriting (lint_part b l).way (lint_part b l).value r → IsWriting lint_way l r
lint_writing b l (Ok v) is written = subst (λ (b : Bool). (lint_part b l).way.trees (lint_part b l).value (view v)) (sym is) written
lint_writing b l (Err e) is (inl memory) = inl memory
lint_writing b l (Err e) is (inr refused) =
    inr (subst (λ (b : Bool). ((d : Data) → ¬ ((lint_part b l).way.trees (lint_part b l).value d)) × (lint_part b l).way.refuses (lint_part b l).value e) (sym is) refused)

-- the lints by tool
abbrev pub LintGroups : Type 0
LintGroups = List (List ℕ × List (List ℕ × LintMeaning))

pub groups_again : AgainAs lint_groups_way (map_of (map_of lint_of)) (EachValue (EachValue IsApart)) (λ (gs : LintGroups). gs)
groups_again = map_same (map_same lint_again)

-- requirements
pub requirement_again : AgainAs requirement_way requirement_of CanBeRead (λ (r : List Held). r)
requirement_again = record { each = λ r (text, h) d is. ap requirement_of is ∙ ap result_ok (spelled_again text r h) }

-- an inherited dependency, whose table says that it is inherited, where it is
pub inherited_again : Again inherited_way inherited_reads
inherited_again = again (table_again inherited_rows inherited_of (λ i. refl) (λ i ms written held. search (read_back, texts_again, nil) depth 20))

strict_members : (i : InheritedMeaning) (ms : Members) → AreWritten (inherited_rows i) no_members ms → i.workspace ≡ true → strict_of ms ≡ Some i
strict_members i ms h1 h2 = grind (arith, nil, read_back, texts_again, truth_again, whole)

-- a detail: there may be as many keys as the pattern has names, since `search` reads variables, and fewer fields of pairs
detail_members : (d : DetailMeaning) (ms : Members) → IfSome d.version CanBeRead → Some (record d { inherited = false }) ≡ Some d → FirstHeld 20 (known_rows d) ms → others_read detail_keys (λ x. Some x) ms ≡ Some d.unstable → detail_of_table ms ≡ Some d
detail_members d ms version last (r1, (r2, (r3, (r4, (r5, (r6, (r7, (r8, (r9, (r10, (r11, (r12, (r13, (r14, (r15, (r16, (r17, (r18, (r19, (r20, end)))))))))))))))))))) others = search (read_back, texts_again, text_again, requirement_again, nil, step {B = DetailMeaning} (others_read detail_keys (λ x. Some x) ms)) depth 50 fits 4000

detail_table : (d : DetailMeaning) (old ms : Members) → DetailAgain d → IsMap free_way d.unstable old → AreWritten (known_rows d) old ms → detail_of_table ms ≡ Some d
detail_table d old ms law map written =
    let read = collected free_way (λ x. Some x) detail_keys d.unstable (known_rows d) old ms free_again law.apart map refl refl written in
    detail_members d ms law.version (ap (λ (b : Bool). Some (record d { inherited = b })) (sym law.not_inherited)) (first_held 20 (known_rows d) ms read.0) read.1

pub detail_again : AgainAs detail_way detail_reads DetailAgain (λ (x : DetailMeaning). x)
detail_again = record { each = λ x law d (old, ms, is, map, written). ap detail_reads is ∙ detail_table x old ms law map written }

-- a dependency: a detail that was read has all other keys of its table, and so whatever stands at `workspace`
abbrev Keeps : Members → DetailMeaning → Type 0
Keeps ms x = others_read detail_keys (λ d. Some d) ms ≡ Some x.unstable

collected_told : (ms : Members) → Gives (Keeps ms) (detail_of_table ms)
collected_told ms =
    let collected : Gives (λ (es : List (List ℕ × Data)). others_read detail_keys (λ d. Some d) ms ≡ Some es) (others_read detail_keys (λ d. Some d) ms) = record { each = λ es e. e } in
    search (bind, skip, gives_some {P = Keeps ms}) depth 60 fits 4000

not_strict : (x : DetailMeaning) (ms : Members) → detail_of_table ms ≡ Some x → required_at "workspace" as_bool (members_of x.unstable) ≡ None → strict_of ms ≡ None
not_strict x ms read none =
    let told : Keeps ms x = (collected_told ms).each x read in
    stops _ _ (ap (required_of as_bool) (other_member detail_keys (codes "workspace") ms x.unstable refl told) ∙ none)

detailed_table : (x : DetailMeaning) (ms : Members) → detail_of_table ms ≡ Some x → required_at "workspace" as_bool (members_of x.unstable) ≡ None → dependency_of (table ms) ≡ Some (detailed x)
unfolding dependency_of
detailed_table x ms h1 h2 = grind (arith, not_strict)

dependency_tree : (x : DependencyMeaning) → DependencyAgain x → ReadsAs dependency_way dependency_of x x
unfolding dependency_of
dependency_tree (simple r) (text, h) d is = ap dependency_of is ∙ ap (λ o. option_map simple (result_ok o)) (spelled_again text r h)
dependency_tree (inherited i) told d (ms, is, written) =
    ap dependency_of is ∙ ap (λ o. inherited_or o (detail_of_table ms)) (strict_members i ms written told)
dependency_tree (detailed x) (law, none) d (old, ms, is, map, written) =
    ap dependency_of is ∙ detailed_table x ms (detail_table x old ms law map written) none

pub dependency_again : AgainAs dependency_way dependency_of DependencyAgain (λ (x : DependencyMeaning). x)
dependency_again = record { each = dependency_tree }

-- an inherited dependency that says that it isn't has the table of a detail
same_rows : (i : InheritedMeaning) (ms : Members) → i.workspace ≡ false → AreWritten (inherited_rows i) no_members ms → AreWritten (known_rows (record no_detail { features = i.features; optional = i.optional })) no_members ms
same_rows i ms h1 h2 = grind arith

as_detail : (i : InheritedMeaning) (d : Data) → i.workspace ≡ false → inherited_way.trees i d → detail_way.trees (record no_detail { features = i.features; optional = i.optional }) d
unfolding IsStrictlySortedBy
as_detail i d says (ms, is, written) = (no_members, ms, is, (tt, tt), same_rows i ms says written)

at_flag : (b : Bool) (i : InheritedMeaning) (d : Data) → i.workspace ≡ b → inherited_way.trees i d
    → dependency_way.trees (cond b (inherited i) (detailed (record no_detail { features = i.features; optional = i.optional }))) d
at_flag true i d says tree = tree
at_flag false i d says tree = as_detail i d says tree

-- each dependency is read as it is read again
reread_tree : (x : DependencyMeaning) (d : Data) → dependency_way.trees x d → dependency_way.trees (reread_dependency x) d
reread_tree (simple r) d tree = tree
reread_tree (inherited i) d tree = at_flag i.workspace i d refl tree
reread_tree (detailed x) d tree = tree

abbrev pub Reread : DependencyMeaning → Type 0
Reread x = DependencyAgain (reread_dependency x)

pub reread_again : AgainAs dependency_way dependency_of Reread reread_dependency
reread_again = record { each = λ x told d tree. dependency_tree (reread_dependency x) told d (reread_tree x d tree) }

-- features, with what is said of them
-- the table of a feature
told_again : Again told_way (λ d. option_and_then table_feature (as_table d))
told_again = again (table_again told_rows table_feature (λ f. refl) (λ f ms written held. search (read_back, texts_again, text_again, nil) depth 20))

-- what is read of a feature: what was said of it, or nothing
abbrev said : Option Detail → Detail
said None = plain_detail
said (Some d) = d

plain_list : (enables : List (List ℕ)) (ds : Items) → list_of (array ds) ≡ Some enables → feature_of (array ds) ≡ Some (enables, plain_detail)
plain_list enables ds h = rw h refl

feature_again : (enables : List (List ℕ)) (detail : Option Detail) (d : Data) → feature_way.trees (enables, detail) d → feature_of d ≡ Some (enables, said detail)
feature_again enables None d (ds, is, items) = rw is (plain_list enables ds (texts_again.each enables tt (array ds) (ds, refl, items)))
feature_again enables (Some detail) d (ms, is, written) = rw is (told_again.each (enables, detail) tt (table ms) (ms, refl, written))

-- names above a name
abbrev AreAbove : List ℕ → List (List ℕ) → Type 0
AreAbove name names = AllByRecursion (λ n. slice_cmp nat_cmp name n ≡ Less) names

-- features, each with what is said of it
abbrev Beside : Type 0
Beside = List (List ℕ × (List (List ℕ) × Option Detail))

-- two names of which one is below the other
below_apart : (k l : List ℕ) → slice_cmp nat_cmp k l ≡ Less → bytes_eq k l ≡ false
below_apart k l h = sym (is_eq-slice_cmp k l) ∙ ap is_eq h

above_apart : (k l : List ℕ) → slice_cmp nat_cmp k l ≡ Less → bytes_eq l k ≡ false
above_apart k l h = sym (is_eq-slice_cmp l k) ∙ ap is_eq (nat_list_cmp_total.antisymm l k ∙ ap ordering_reverse h)

below_lower : (k l : List ℕ) (names : List (List ℕ)) → slice_cmp nat_cmp k l ≡ Less → AreAbove l names → AreAbove k names
below_lower k l [] lt all = tt
below_lower k l (n ∷ names) lt all = (nat_list_cmp_total.trans k l n lt all.0, below_lower k l names lt all.1)

-- nothing is said of a name that is below those of which something is
nothing_said : (name : List ℕ) (es : List (List ℕ × Detail)) → AreAbove name (keys_of es) → detail_under name es ≡ None
nothing_said name [] h = refl
nothing_said name (e ∷ es) h = rw (below_apart name e.0 h.0) (nothing_said name es h.1)

-- what is said of a lower name is nothing to those above it
said_past : (fs : List (List ℕ × List (List ℕ))) (e : List ℕ × Detail) (es : List (List ℕ × Detail)) → AreAbove e.0 (keys_of fs) → told_features (fs, e ∷ es) ≡ told_features (fs, es)
said_past [] e es h = refl
said_past (f ∷ fs) e es h =
    ap (λ (b : Bool). (f.0, (f.1, cond b (Some e.1) (detail_under f.0 es))) ∷ told_features (fs, e ∷ es)) (above_apart e.0 f.0 h.0)
    ∙ ap (λ (rest : Beside). (f.0, (f.1, detail_under f.0 es)) ∷ rest) (said_past fs e es h.1)

-- a name inside those above another is above it
named_at : (b : Bool) (name m n : List ℕ) (names : List (List ℕ)) → bytes_eq m n ≡ b → slice_cmp nat_cmp name m ≡ Less → IsTrue (cond b true (is_among names n))
    → (IsTrue (is_among names n) → slice_cmp nat_cmp name n ≡ Less) → slice_cmp nat_cmp name n ≡ Less
named_at b name m n names h1 h2 h3 h4 = grind (arith, bytes_eq-Decides)

named_above : (name n : List ℕ) (names : List (List ℕ)) → AreAbove name names → IsTrue (is_among names n) → slice_cmp nat_cmp name n ≡ Less
named_above name n [] h inside = absurd (false≢true inside)
named_above name n (m ∷ names) h inside = named_at (bytes_eq m n) name m n names refl h.0 inside (named_above name n names h.1)

still_named : (name : List ℕ) (names : List (List ℕ)) (es : List (List ℕ × Detail)) → AreAbove name (keys_of es) → AreNamed (name ∷ names) es → AreNamed names es
still_named name names [] above named = tt
still_named name names (e ∷ es) above named =
    (subst (λ (b : Bool). IsTrue (cond b true (is_among names e.0))) (below_apart name e.0 above.0) named.0, still_named name names es above.1 named.1)

not_first : (b : Bool) (names : List (List ℕ)) (n : List ℕ) → b ≡ false → IsTrue (cond b true (is_among names n)) → IsTrue (is_among names n)
not_first b names n h1 h2 = grind (arith, false≢true)

-- what is read of features, each with what is said of it
abbrev read_all : Beside → List (List ℕ × (List (List ℕ) × Detail))
read_all fs = map (λ f. (f.0, (f.1.0, said f.1.1))) fs

abbrev joined : List (List ℕ × List (List ℕ)) → List (List ℕ × Detail) → List (List ℕ × (List (List ℕ) × Detail))
joined fs es = read_all (told_features (fs, es))

abbrev AreAgain : List (List ℕ × List (List ℕ)) → Type 0
AreAgain fs = (es : List (List ℕ × Detail)) → Ascend (keys_of es) → AreNamed (keys_of fs) es → AreSaid es → details_of (joined fs es) ≡ es

kept : (b : Bool) (e : List ℕ × Detail) (es : List (List ℕ × Detail)) → b ≡ false → cond (not b) (e ∷ es) es ≡ e ∷ es
kept b e es h1 = grind (arith, false≢true)

details_at : (b : Bool) (f : List ℕ × List (List ℕ)) (fs : List (List ℕ × List (List ℕ))) (e : List ℕ × Detail) (es : List (List ℕ × Detail)) → bytes_eq f.0 e.0 ≡ b
    → AreAbove f.0 (keys_of fs) → AreAbove e.0 (keys_of es) → Ascend (keys_of es) → AreNamed (f.0 ∷ keys_of fs) (e ∷ es) → AreSaid (e ∷ es) → AreAgain fs
    → details_of ((f.0, (f.1, said (cond b (Some e.1) (detail_under f.0 es)))) ∷ joined fs (e ∷ es)) ≡ e ∷ es
unfolding IsStrictlySortedBy
details_at true f fs e es same above rest ascend named told again =
    let equal : f.0 ≡ e.0 = (bytes_eq-Decides f.0 e.0).0 same in
    let past : details_of (joined fs (e ∷ es)) ≡ es =
    ap (λ (xs : Beside). details_of (read_all xs)) (said_past fs e es (subst (λ (k : List ℕ). AreAbove k (keys_of fs)) equal above))
    ∙ again es ascend (still_named f.0 (keys_of fs) es (subst (λ (k : List ℕ). AreAbove k (keys_of es)) (sym equal) rest) named.1) told.1 in
    kept (is_plain e.1) (f.0, e.1) (details_of (joined fs (e ∷ es))) told.0
    ∙ ap (λ (k : List ℕ). (k, e.1) ∷ details_of (joined fs (e ∷ es))) equal
    ∙ ap (λ (xs : List (List ℕ × Detail)). e ∷ xs) past
details_at false f fs e es apart above rest ascend named told again =
    let below : slice_cmp nat_cmp f.0 e.0 ≡ Less = named_above f.0 e.0 (keys_of fs) above (not_first (bytes_eq f.0 e.0) (keys_of fs) e.0 apart named.0) in
    let none_below : AreAbove f.0 (keys_of (e ∷ es)) = (below, below_lower f.0 e.0 (keys_of es) below rest) in
    ap (λ (o : Option Detail). details_of ((f.0, (f.1, said o)) ∷ joined fs (e ∷ es))) (nothing_said f.0 es none_below.1)
    ∙ again (e ∷ es) (rest, ascend) (still_named f.0 (keys_of fs) (e ∷ es) none_below named) told

details_again : (fs : List (List ℕ × List (List ℕ))) → Ascend (keys_of fs) → AreAgain fs
unfolding IsStrictlySortedBy
details_again [] ordered [] ascend named is_told = refl
details_again [] ordered (e ∷ es) ascend named is_told = absurd (false≢true named.0)
details_again (f ∷ fs) ordered [] ascend named is_told = details_again fs ordered.1 [] tt tt tt
details_again (f ∷ fs) ordered (e ∷ es) ascend named is_told =
    details_at (bytes_eq f.0 e.0) f fs e es refl ordered.0 ascend.0 ascend.1 named is_told (details_again fs ordered.1)

lists_again : (fs : List (List ℕ × List (List ℕ))) (es : List (List ℕ × Detail)) → lists_of (joined fs es) ≡ fs
lists_again [] es = refl
lists_again (f ∷ fs) es = ap (λ xs. f ∷ xs) (lists_again fs es)

pub same_names : (fs : List (List ℕ × List (List ℕ))) (es : List (List ℕ × Detail)) → keys_of fs ≡ keys_of (told_features (fs, es))
same_names [] es = refl
same_names (f ∷ fs) es = ap (λ names. f.0 ∷ names) (same_names fs es)

-- both halves are read again
features_tree : (fs : FeaturesMeaning) → AreTold fs → ReadsAs features_way features_of fs fs
features_tree fs told d (details, tree) =
    let lists : Ascend (keys_of fs.0) = subst Ascend (sym (same_names fs.0 fs.1)) tree.2.0 in
    let named : AreNamed (keys_of fs.0) fs.1 = recursion_from_All (λ (e : List ℕ × Detail). IsTrue (is_among (keys_of fs.0) e.0)) fs.1 told.named in
    let said_all : AreSaid fs.1 = recursion_from_All (λ (e : List ℕ × Detail). is_plain e.1 ≡ false) fs.1 told.told in
    let any = all_of (λ (e : List ℕ × (List (List ℕ) × Option Detail)). Unit {0}) (λ e. tt) (told_features fs) in
    let one : AgainAs feature_way feature_of Any (λ f. (f.0, said f.1)) = record { each = λ f h. feature_again f.0 f.1 } in
    ap (option_map apart) ((map_as one).each (told_features fs) any d tree)
    ∙ ap (λ (ls : List (List ℕ × List (List ℕ))). Some (ls, details_of (joined fs.0 fs.1))) (lists_again fs.0 fs.1)
    ∙ ap (λ (ds : List (List ℕ × Detail)). Some (fs.0, ds)) (details_again fs.0 lists fs.1 details named said_all)

pub features_again : AgainAs features_way features_of AreTold (λ (fs : FeaturesMeaning). fs)
features_again = record { each = features_tree }

-- no features, of which nothing is said
none_at : (lists : List (List ℕ × List (List ℕ))) (details : List (List ℕ × Detail)) → AreNamed (keys_of lists) details → is_nil lists ≡ true → (lists, details) ≡ no_features
none_at [] [] named h = refl
none_at [] (e ∷ es) named h = absurd (false≢true named.0)
none_at (f ∷ fs) details named h = absurd (false≢true h)

pub no_feature : StandsFor features_way.left_out AreTold (λ (fs : FeaturesMeaning). fs) no_features
no_feature = record { each = λ fs told. none_at fs.0 fs.1 (recursion_from_All (λ (e : List ℕ × Detail). IsTrue (is_among (keys_of fs.0) e.0)) fs.1 told.named) }

-- what a written manifest holds of them
pub manifest_features : {M : Type 0} (metadata : Way M) (m : ManifestMeaning M) → AreTold (all_features m)
    → (d : Data) → (manifest_way metadata).trees m d → features_in d ≡ Some (all_features m)
manifest_features metadata m told d (ms, is, written) =
    ap features_in is ∙ given (get_member (codes "features") ms) (Some true) (all_features m) no_features (whole (manifest_rows metadata m) ms refl written).1.1.1.1.1.1.0 features_again told no_feature

-- packages and templates read as themselves
-- what the workspace may give
abbrev EitherAgain : {X : Type 0} → Way X → (Data → Option X) → Type 0
EitherAgain {X = X} way reads = AgainAs (inheritable_way way) (inheritable_of reads) (IfSet Any) (λ (x : Inheritable X). x)

either_text : EitherAgain text_way as_str
either_text = inheritable_again text_again refl

either_texts : EitherAgain texts_way list_of
either_texts = inheritable_again texts_again refl

either_file : EitherAgain file_way file_of
either_file = inheritable_again file_again refl

either_publish : EitherAgain publish_way publish_of
either_publish = inheritable_again publish_again refl

either_edition : EitherAgain edition_way edition_reads
either_edition = inheritable_again edition_again refl

either_version : AgainAs (inheritable_way version_way) (inheritable_of version_of) (IfSet IsVersionAgain) (λ (v : Inheritable Parts). v)
either_version = inheritable_again version_again refl

ruleset eithers = (either_text, either_texts, either_file, either_publish, either_edition, either_version, set_stands)

-- the metadata
pub metadata_read : {X W M : Type 0} (way : Way W) (held : X → W) (meaning : X → M) (reads : Data → Option M) (x : Option X) (o : Option Data)
    → MetadataAgain way held meaning reads x → IsHeld way (option_map held x) o → optional_of reads o ≡ Some (option_map meaning x)
metadata_read way held meaning reads x o h1 h2 = grind arith

metadata_step : {X W M N : Type 0} (way : Way W) (held : X → W) (meaning : X → M) (reads : Data → Option M) (x : Option X) (o : Option Data) (f : Option M → Option N) (r : Option N)
    → StandsAt o way (option_map held x) → MetadataAgain way held meaning reads x → f (option_map meaning x) ≡ r → option_and_then f (optional_of reads o) ≡ r
metadata_step way held meaning reads x o f r here again rest = step (optional_of reads o) f (option_map meaning x) r (metadata_read way held meaning reads x o again here.is) rest

module _ {X W M : Type 0} (way : Way W) (held : X → W) (meaning : X → M) (reads : Data → Option M) (p : Package X) where
  -- as many keys at most as the pattern has names
  members_again : (ms : Members) → VersionAgain (inheritable_map parts_of p.version) → MetadataAgain way held meaning reads p.metadata
      → FirstHeld 40 (package_rows way (package_meaning held p)) ms → package_of_table reads ms ≡ Some (package_meaning meaning p)
  members_again ms version metadata (r1, (r2, (r3, (r4, (r5, (r6, (r7, (r8, (r9, (r10, (r11, (r12, (r13, (r14, (r15, (r16, (r17, (r18, (r19, (r20, (r21, (r22, (r23, (r24, (r25, (r26, (r27, (r28, (r29, (r30, (r31, (r32, (r33, (r34, (r35, (r36, (r37, (r38, (r39, (r40, end)))))))))))))))))))))))))))))))))))))))) =
      search (values_back, eithers, metadata_step {N = PackageMeaning M} way held meaning reads) depth 80 fits 40000

  pub package_again : VersionAgain (inheritable_map parts_of p.version) → MetadataAgain way held meaning reads p.metadata
      → (d : Data) → (package_way way).trees (package_meaning held p) d → package_reads reads d ≡ Some (package_meaning meaning p)
  unfolding package_reads
  package_again version metadata d (ms, is, written) =
      let rows = package_rows way (package_meaning held p) in
      ap (λ t. option_and_then (package_of_table reads) (as_table t)) is ∙ members_again ms version metadata (first_held 40 rows ms (whole rows ms refl written))

template_members : (t : TemplateMeaning) → TemplateAgain t → (ms : Members) → AllHeld (template_rows t) ms → template_of ms ≡ Some t
template_members t version ms held = search (values_back, version_again) depth 60 fits 4000

pub template_again : AgainAs template_way template_reads TemplateAgain (λ (t : TemplateMeaning). t)
unfolding template_reads
template_again = record {
  each = λ t version d (ms, is, written).
      ap (λ x. option_and_then template_of (as_table x)) is ∙ template_members t version ms (whole (template_rows t) ms refl written);
}

-- targets, workspaces and manifests
abbrev Entries : Type 0
Entries = List (List ℕ × DependencyMeaning)

pub entries_again : AgainAs dependencies_way (map_of dependency_of) (EachValue Reread) (each_value reread_dependency)
entries_again = map_as reread_again

no_entries : StandsFor (λ (es : Entries). is_nil es) (EachValue Reread) (each_value reread_dependency) []
no_entries = nil_map reread_dependency

target_members : (t : TargetMeaning) → TargetMeets Reread t → (ms : Members) → AllHeld (target_rows t) ms → target_of ms ≡ Some (reread_target t)
target_members t told ms held = search (read_back, entries_again) depth 20

pub target_again : AgainAs target_way target_reads (TargetMeets Reread) reread_target
target_again = record { each = λ t told d (ms, is, written). rw is (target_members t told ms (whole (target_rows t) ms refl written)) }

targets_again : AgainAs (map_way target_way) (map_of target_reads) (EachValue (TargetMeets Reread)) (each_value reread_target)
targets_again = map_as target_again

patches_again : AgainAs (map_way dependencies_way) (map_of (map_of dependency_of)) (EachValue (EachValue Reread)) (each_value (each_value reread_dependency))
patches_again = map_as entries_again

no_targets : StandsFor (λ (ts : List (List ℕ × TargetMeaning)). is_nil ts) (EachValue (TargetMeets Reread)) (each_value reread_target) []
no_targets = nil_map reread_target

no_patches : StandsFor (λ (ps : List (List ℕ × Entries)). is_nil ps) (EachValue (EachValue Reread)) (each_value (each_value reread_dependency)) []
no_patches = nil_map (each_value reread_dependency)

products_again : Again (list_way product_way) (array_of product_reads)
products_again = list_again product_way product_reads product_again

either_groups : AgainAs (inheritable_way lint_groups_way) (inheritable_of (map_of (map_of lint_of))) (IfSet (EachValue (EachValue IsApart))) (λ (gs : Inheritable LintGroups). gs)
either_groups = inheritable_again groups_again refl

-- a value with metadata, which are written as one meaning and read as another
pair_read : {W X N : Type 0} (way : Way W) (reads : Data → Option N) (held : X → W) (meant : X → N) (x : Option X) (o : Option Data) → ((y : X) → x ≡ Some y → ReadsAs way reads (held y) (meant y))
    → IsHeld way (option_map held x) o → optional_of reads o ≡ Some (option_map meant x)
pair_read way reads held meant x o h1 h2 = grind arith

mapped_twice : {A B C : Type 0} (f : B → C) (g : A → B) (o : Option A) → option_map (λ x. f (g x)) o ≡ option_map f (option_map g o)
mapped_twice f g o = grind arith

module _ {X W M : Type 0} (way : Way W) (held : X → W) (meaning : X → M) (reads : Data → Option M) (law : AreReadAgain way held meaning reads) where
  metadata_again : (x : Option X) → MetadataAgain way held meaning reads x
  metadata_again x = grind arith

  workspace_members : (w : Workspace X) → WorkspaceMeets told (workspace_meaning meaning w) → (ms : Members) → AllHeld (workspace_rows way (workspace_meaning held w)) ms
      → workspace_of reads ms ≡ Some (reread_workspace (workspace_meaning meaning w))
  workspace_members w h ms rows = search (values_back, template_again, entries_again, groups_again, no_entries, metadata_step {N = WorkspaceMeaning M} way held meaning reads, metadata_again) depth 30 fits 4000

  pub workspace_again : (w : Workspace X) → WorkspaceMeets told (workspace_meaning meaning w)
      → ReadsAs (workspace_way way) (workspace_reads reads) (workspace_meaning held w) (reread_workspace (workspace_meaning meaning w))
  unfolding workspace_reads
  workspace_again w h d (ms, is, written) =
      ap (λ t. option_and_then (workspace_of reads) (as_table t)) is ∙ workspace_members w h ms (whole (workspace_rows way (workspace_meaning held w)) ms refl written)

  manifest_members : (m : Manifest X) → IsTold (manifest_meaning meaning m) → (ms : Members) → AllHeld (manifest_rows way (manifest_meaning held m)) ms
      → manifest_of reads ms ≡ Some (reread (manifest_meaning meaning m))
  manifest_members m h ms (its_package, (its_workspace, (plain, (dev, (build, (target, (features, (replace, (patch, (lib, (profile, (badges, (bin, (bench, (test, (example, (lints, end))))))))))))))))) =
      let version = λ (p : Package X) (is : m.«package» ≡ Some p). subst (λ (o : Option (Package X)). IfSome (option_map (package_meaning meaning) o) (λ (x : PackageMeaning M). VersionAgain x.version)) is h.«package» in
      let members = λ (w : Workspace X) (is : m.workspace ≡ Some w). subst (λ (o : Option (Workspace X)). IfSome (option_map (workspace_meaning meaning) o) (WorkspaceMeets told)) is h.workspace in
      let found = pair_read (package_way way) (package_reads reads) (package_meaning held) (package_meaning meaning) m.«package» (get_member (codes "package") ms)
      (λ p is. package_again way held meaning reads p (version p is) (metadata_again p.metadata)) its_package.is in
      let whole_workspace = pair_read (workspace_way way) (workspace_reads reads) (workspace_meaning held) (λ w. reread_workspace (workspace_meaning meaning w)) m.workspace (get_member (codes "workspace") ms)
      (λ w is. workspace_again w (members w is)) its_workspace.is ∙ ap Some (mapped_twice reread_workspace (workspace_meaning meaning) m.workspace) in
      step _ _ _ _ found (step _ _ _ _ whole_workspace
      (search (read_back, entries_again, no_entries, targets_again, no_targets, features_again, no_feature, patches_again, no_patches, product_again, profiles_again, no_profile, badges_again, no_badge, products_again, nil, either_groups, set_stands, h.dependencies, h.dev_dependencies, h.build_dependencies, h.target, h.features, h.replace, h.patch, h.profile, h.lints) depth 60 fits 60000))

  pub manifest_again : (m : Manifest X) → IsTold (manifest_meaning meaning m)
      → ReadsAs (manifest_way way) (manifest_reads reads) (manifest_meaning held m) (reread (manifest_meaning meaning m))
  manifest_again m h d (ms, is, written) = rw is (manifest_members m h ms (whole (manifest_rows way (manifest_meaning held m)) ms refl written))
