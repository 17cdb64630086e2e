-- What was read of a tree that holds no float is such as is asked, where each part that was read is: it is as asked of what is
-- written, it is told so that it is read again, and then it stays.
use Rattle.cargo_toml_write.proofs.Cited.{All, All-from_recursion, AllByRecursion, AreApart, AreTold, Asked, AsksOf, Bool, CanBeRead, Data, DependencyAgain, DependencyMeaning, Detail, DetailAgain, DetailMeaning, EachValue, Held, IfSet, IfSome, Inheritable, Inherited, InheritedMeaning, IsApart, IsTold, IsTrue, IsVersionAgain, LintMeaning, LintsByTool, List, ManifestMeaning, ManifestMeets, Members, None, Ok, Option, Ordering, PackageMeaning, Parts, ProfileMeaning, Result, SaysTrue, Set, Some}
use Rattle.cargo_toml_write.proofs.Cited.{TargetMeaning, TargetMeets, TemplateAgain, VersionAgain, WorkspaceMeaning, WorkspaceMeets, [], and_parts, any_tree, ap, apart, arith, array_of, as_bool, as_table, badges_reads, by_flag, by_zero_rule, bytes_eq, bytes_eq-Decides, codes, cond, dependencies_way, dependency_of, dependency_way, detail_keys, detail_of_table, detail_way, detailed, details_of, document_reads, each_value, everywhere, false, false≢true}
use Rattle.cargo_toml_write.proofs.Cited.{feature_of, features_of, flag_at, free_way, get_member, given_at, given_of, has_no_float, has_no_profile, if◌then◌else◌, inheritable_of, inheritable_way, inherited, inherited_at, inherited_or, is_among, is_level_alone, is_nil, is_plain, is_set_and, keys_of, level_alone, level_of, lint_groups_way, lint_keys, lint_of, lint_part, lint_way, list_at, lists_of, lit<, manifest_of, manifest_reads, manifest_way, map_at}
use Rattle.cargo_toml_write.proofs.Cited.{map_of, map_way, match_ordering, member, members_of, nat_cmp, no_badges, no_detail, no_features, no_members, no_profiles, not, nothing_asked, option_and_then, option_map, optional_at, optional_of, others_read, package_of_table, package_reads, package_way, product_reads, profile_keys, profile_of, profile_reads, profile_way, profiles_of, profiles_reads, profiles_way, recursion_from_All, refl, req_of, required_at}
use Rattle.cargo_toml_write.proofs.Cited.{required_of, requirement_of, reread, reread_dependency, reread_target, reread_workspace, result_ok, says_true, set_or, simple, slice_cmp, strict_of, string, subst, sym, table, table_lint, target_of, target_reads, target_way, template_of, template_reads, told, true, unless, version_of, version_parts, version_parts-complete, version_parts-sound, without_floats, workspace_flag, workspace_of, workspace_reads}
use Rattle.cargo_toml_write.proofs.Cited.{workspace_way, zero_rule_applies, ℕ, ◌&&◌, ◌∙◌, ◌∷◌, ◌≡◌}
use Rattle.cargo_toml_write.proofs.ReadAgain.{AreOthers, other_member}
use Prim.Native.String.{String as Words}
use Rattle.cargo_toml_write.specs.Lawful.{AllFloatless as MembersFloatless}
use Rattle.cargo_toml_write.specs.Ways.{HoldsNoFloat as Floatless}
use Rattle.semver.specs.declared.error.Error.{Error}

-- what is given, if anything, is such
pub record Gives {A : Type 0} (P : A → Type 0) (o : Option A) : Type 0 where
  pub each : (x : A) → o ≡ Some x → P x

pub gives_none : {A : Type 0} {P : A → Type 0} → Gives P None
gives_none = record { each = λ x e. absurd cc }

pub gives_some : {A : Type 0} {P : A → Type 0} (x : A) → P x → Gives P (Some x)
gives_some {P = P} x h = record { each = λ y e. subst P (cc) h }

-- a step and what follows, and a step of which nothing is asked
pub bind : {A B : Type 0} {Q : A → Type 0} {P : B → Type 0} (o : Option A) (f : A → Option B) → Gives Q o → ((x : A) → Q x → Gives P (f x)) → Gives P (option_and_then f o)
bind o f h1 h2 = grind (arith, gives_none)

pub skip : {A B : Type 0} {P : B → Type 0} (o : Option A) (f : A → Option B) → ((x : A) → Gives P (f x)) → Gives P (option_and_then f o)
skip o f h1 = grind (arith, gives_none)

pub mapped : {A B : Type 0} {Q : A → Type 0} {P : B → Type 0} (o : Option A) (f : A → B) → Gives Q o → ((x : A) → Q x → P (f x)) → Gives P (option_map f o)
mapped o f h1 h2 = grind (arith, gives_none, gives_some)

-- a reader that gives such of a tree that holds no float
abbrev pub Reads : {M : Type 0} → (M → Type 0) → (Data → Option M) → Type 0
Reads P reads = (d : Data) → IsTrue (has_no_float d) → Gives P (reads d)

chosen : (o : Ordering) (r s : Option Data) → Gives Floatless r → Gives Floatless s → Gives Floatless (match_ordering o r s r)
chosen o r s h1 h2 = grind arith

pub got_floatless : (k : List ℕ) (ms : Members) → MembersFloatless ms → Gives Floatless (get_member k ms)
got_floatless k no_members h = gives_none
got_floatless k (member l d ms) h =
    let parts : Floatless d × MembersFloatless ms = and_parts _ _ h in
    chosen (slice_cmp nat_cmp k l) (get_member k ms) (Some d) (got_floatless k ms parts.1) (gives_some {P = Floatless} d parts.0)

optional_gives : {M : Type 0} {P : M → Type 0} (reads : Data → Option M) → Reads P reads → (o : Option Data) → Gives Floatless o → Gives (λ x. IfSome x P) (optional_of reads o)
optional_gives reads h1 h2 h3 = grind (arith, gives_some, mapped)

pub optional_reads : {M : Type 0} {P : M → Type 0} (key : Words) (reads : Data → Option M) → Reads P reads → (ms : Members) → MembersFloatless ms → Gives (λ x. IfSome x P) (optional_at key reads ms)
optional_reads key reads r ms h = optional_gives reads r (get_member (codes key) ms) (got_floatless (codes key) ms h)

given_gives : {M : Type 0} {P : M → Type 0} (missing : M) (reads : Data → Option M) → P missing → Reads P reads → (o : Option Data) → Gives Floatless o → Gives P (given_of reads missing o)
given_gives missing reads h1 h2 h3 h4 = grind (arith, gives_some)

pub given_reads : {M : Type 0} {P : M → Type 0} (key : Words) (missing : M) (reads : Data → Option M) → P missing → Reads P reads → (ms : Members) → MembersFloatless ms → Gives P (given_at key missing reads ms)
given_reads key missing reads p r ms h = given_gives missing reads p r (get_member (codes key) ms) (got_floatless (codes key) ms h)

-- maps
abbrev pub Entries : {M : Type 0} → (M → Type 0) → List (List ℕ × M) → Type 0
Entries {M = M} P es = AllByRecursion (λ (e : List ℕ × M). P e.1) es

one_entry : {M : Type 0} {P : M → Type 0} (b : Bool) (k : List ℕ) (o : Option M) (rest : Option (List (List ℕ × M))) → Gives P o → Gives (Entries P) rest
    → Gives (Entries P) (if b then rest else option_and_then (λ x. option_map (λ xs. (k, x) ∷ xs) rest) o)
one_entry b k o rest h1 h2 = grind (arith, bind, mapped)

entries_read : {M : Type 0} {P : M → Type 0} (names : List (List ℕ)) (reads : Data → Option M) → Reads P reads → (ms : Members) → MembersFloatless ms → Gives (Entries P) (others_read names reads ms)
entries_read {P = P} names reads r no_members h = gives_some {P = Entries P} [] tt
entries_read {P = P} names reads r (member k d ms) h =
    let parts : Floatless d × MembersFloatless ms = and_parts _ _ h in
    one_entry {P = P} (is_among names k) k (reads d) (others_read names reads ms) (r d parts.0) (entries_read names reads r ms parts.1)

pub others_reads : {M : Type 0} {P : M → Type 0} (names : List (List ℕ)) (reads : Data → Option M) → Reads P reads → (ms : Members) → MembersFloatless ms → Gives (EachValue P) (others_read names reads ms)
others_reads {M = M} {P = P} names reads r ms h =
    record { each = λ es e. All-from_recursion (λ (x : List ℕ × M). P x.1) es ((entries_read {P = P} names reads r ms h).each es e) }

pub no_entries : {M : Type 0} (P : M → Type 0) → EachValue P []
no_entries {M = M} P = All-from_recursion (λ (x : List ℕ × M). P x.1) [] tt

pub table_reads : {M : Type 0} {P : M → Type 0} (f : Members → Option M) → ((ms : Members) → MembersFloatless ms → Gives P (f ms)) → (d : Data) → Floatless d → Gives P (option_and_then f (as_table d))
table_reads f h1 h2 h3 = grind (arith, gives_none)

pub map_reads : {M : Type 0} {P : M → Type 0} (reads : Data → Option M) → Reads P reads → Reads (EachValue P) (map_of reads)
map_reads reads r d h = table_reads (others_read [] reads) (λ ms free. others_reads [] reads r ms free) d h

pub map_at_reads : {M : Type 0} {P : M → Type 0} (key : Words) (reads : Data → Option M) → Reads P reads → (ms : Members) → MembersFloatless ms → Gives (EachValue P) (map_at key reads ms)
map_at_reads {P = P} key reads r ms h = given_reads key [] (map_of reads) (no_entries P) (map_reads reads r) ms h

pub tree_reads : Reads Floatless (λ d. Some d)
tree_reads d h = gives_some {P = Floatless} d h

pub anything : {A : Type 0} (o : Option A) → Gives (λ x. Unit {0}) o
anything o = record { each = λ x e. tt }

-- what a workspace may give
flag_gives : {M : Type 0} {P : M → Type 0} (flag : Option Bool) → Gives (IfSet P) (by_flag {M = M} flag)
flag_gives flag = grind (arith, gives_none, gives_some)

set_gives : {M : Type 0} {P : M → Type 0} (o : Option M) (flag : Option Bool) → Gives P o → Gives (IfSet P) (set_or o flag)
set_gives o flag h1 = grind (arith, flag_gives, gives_some)

pub inheritable_reads : {M : Type 0} {P : M → Type 0} (reads : Data → Option M) → Reads P reads → Reads (IfSet P) (inheritable_of reads)
inheritable_reads reads r d h = set_gives (reads d) (workspace_flag d) (r d h)

-- the public reader refuses a tree that holds a float
public_at : {M : Type 0} {P : M → Type 0} (reads : Data → Option M) → Reads P reads → (b : Bool) (d : Data) → b ≡ has_no_float d → Gives P (if b then reads d else None)
public_at reads h1 h2 h3 h4 = grind (arith, gives_none)

pub public_reads : {M : Type 0} {P : M → Type 0} (reads : Data → Option M) → Reads P reads → (d : Data) → Gives P (without_floats reads d)
public_reads reads r d = public_at reads r (has_no_float d) d refl

-- each reader of a part gives such
pub record Leaves {M : Type 0} (asked : Asked M) (metadata_of : Data → Option M) : Type 0 where
  pub metadata : Reads asked.metadata metadata_of
  pub «package» : Reads (λ p. asked.«package» (by_zero_rule p)) (package_reads metadata_of)
  pub template : (o : Option Data) → Gives asked.template (optional_of template_reads o)
  pub dependency : Reads asked.dependency dependency_of
  pub lint : Reads asked.lint lint_of
  pub profiles : Reads asked.profiles profiles_reads
  pub no_profile : asked.profiles no_profiles
  pub features : (o : Option Data) → Gives asked.features (given_of features_of no_features o)

module _ {M : Type 0} (asked : Asked M) (metadata_of : Data → Option M) (leaves : Leaves asked metadata_of) where
  abbrev Dependency : DependencyMeaning → Type 0
  Dependency = asked.dependency

  abbrev Lints : List (List ℕ × List (List ℕ × LintMeaning)) → Type 0
  Lints = EachValue (EachValue asked.lint)

  dependencies : (ms : Members) → MembersFloatless ms → (key : Words) → Gives (EachValue Dependency) (map_at key dependency_of ms)
  dependencies ms h key = map_at_reads {P = Dependency} key dependency_of leaves.dependency ms h

  target_members : (ms : Members) → MembersFloatless ms → Gives (TargetMeets Dependency) (target_of ms)
  target_members ms h =
      (bind {P = TargetMeets Dependency} (map_at "dependencies" dependency_of ms) _ (dependencies ms h "dependencies") (λ plain h_plain.
      (bind {P = TargetMeets Dependency} (map_at "dev-dependencies" dependency_of ms) _ (dependencies ms h "dev-dependencies") (λ dev h_dev.
      (bind {P = TargetMeets Dependency} (map_at "build-dependencies" dependency_of ms) _ (dependencies ms h "build-dependencies") (λ build h_build.
      gives_some {P = TargetMeets Dependency} _ (record { dependencies = h_plain; dev_dependencies = h_dev; build_dependencies = h_build })))))))

  target_read : Reads (TargetMeets Dependency) target_reads
  target_read d h = table_reads target_of target_members d h

  lints_read : Reads Lints (map_of (map_of lint_of))
  lints_read = map_reads (map_of lint_of) (map_reads lint_of leaves.lint)

  workspace_members : (ms : Members) → MembersFloatless ms → Gives (WorkspaceMeets asked) (workspace_of metadata_of ms)
  workspace_members ms h =
      let metadata : Gives (λ x. IfSome x asked.metadata) (optional_at "metadata" metadata_of ms) = optional_reads {P = asked.metadata} "metadata" metadata_of leaves.metadata ms h in
      let template : Gives asked.template (optional_at "package" template_reads ms) = leaves.template (get_member (codes "package") ms) in
      let its_dependencies : Gives (EachValue Dependency) (map_at "dependencies" dependency_of ms) = dependencies ms h "dependencies" in
      let lints : Gives Lints (map_at "lints" (map_of lint_of) ms) = map_at_reads {P = EachValue asked.lint} "lints" (map_of lint_of) (map_reads lint_of leaves.lint) ms h in
      search (bind, skip, gives_some {P = WorkspaceMeets asked}) depth 60 fits 4000

  pub workspace_read : Reads (WorkspaceMeets asked) (workspace_reads metadata_of)
  unfolding workspace_reads
  workspace_read d h = table_reads (workspace_of metadata_of) workspace_members d h

  found_ruled : (found : Option (PackageMeaning M)) → IfSome found (λ p. asked.«package» (by_zero_rule p)) → IfSome (option_map by_zero_rule found) asked.«package»
  found_ruled found h1 = grind arith

  abbrev Whole : ManifestMeaning M → Type 0
  Whole = ManifestMeets asked

  manifest_members : (ms : Members) → MembersFloatless ms → Gives Whole (manifest_of metadata_of ms)
  manifest_members ms h =
      (bind {P = Whole} (optional_at "package" (package_reads metadata_of) ms) _ (optional_reads {P = λ p. asked.«package» (by_zero_rule p)} "package" (package_reads metadata_of) leaves.«package» ms h) (λ found h_found.
      (bind {P = Whole} (optional_at "workspace" (workspace_reads metadata_of) ms) _ (optional_reads {P = WorkspaceMeets asked} "workspace" (workspace_reads metadata_of) workspace_read ms h) (λ workspace h_workspace.
      (bind {P = Whole} (map_at "dependencies" dependency_of ms) _ (dependencies ms h "dependencies") (λ plain h_plain.
      (bind {P = Whole} (map_at "dev-dependencies" dependency_of ms) _ (dependencies ms h "dev-dependencies") (λ dev h_dev.
      (bind {P = Whole} (map_at "build-dependencies" dependency_of ms) _ (dependencies ms h "build-dependencies") (λ build h_build.
      (bind {P = Whole} (map_at "target" target_reads ms) _ (map_at_reads {P = TargetMeets Dependency} "target" target_reads target_read ms h) (λ target h_target.
      (bind {P = Whole} (given_at "features" no_features features_of ms) _ (leaves.features (get_member (codes "features") ms)) (λ features h_features.
      (bind {P = Whole} (map_at "replace" dependency_of ms) _ (dependencies ms h "replace") (λ replace h_replace.
      (bind {P = Whole} (map_at "patch" (map_of dependency_of) ms) _ (map_at_reads {P = EachValue Dependency} "patch" (map_of dependency_of) (map_reads dependency_of leaves.dependency) ms h) (λ patch h_patch.
      (skip {P = Whole} (optional_at "lib" product_reads ms) _ (λ lib.
      (bind {P = Whole} (given_at "profile" no_profiles profiles_reads ms) _ (given_reads {P = asked.profiles} "profile" no_profiles profiles_reads leaves.no_profile leaves.profiles ms h) (λ profile h_profile.
      (skip {P = Whole} (given_at "badges" no_badges badges_reads ms) _ (λ badges.
      (skip {P = Whole} (given_at "bin" [] (array_of product_reads) ms) _ (λ bin.
      (skip {P = Whole} (given_at "bench" [] (array_of product_reads) ms) _ (λ bench.
      (skip {P = Whole} (given_at "test" [] (array_of product_reads) ms) _ (λ test.
      (skip {P = Whole} (given_at "example" [] (array_of product_reads) ms) _ (λ example.
      (bind {P = Whole} (inherited_at "lints" [] (map_of (map_of lint_of)) ms) _ (given_reads {P = IfSet Lints} "lints" (Set []) (inheritable_of (map_of (map_of lint_of))) (no_entries (EachValue asked.lint)) (inheritable_reads {P = Lints} (map_of (map_of lint_of)) lints_read) ms h) (λ lints h_lints.
      gives_some {P = Whole} _ (record { «package» = found_ruled found h_found; workspace = h_workspace; dependencies = h_plain; dev_dependencies = h_dev; build_dependencies = h_build; target = h_target; replace = h_replace; patch = h_patch; profile = h_profile; lints = h_lints; features = h_features })))))))))))))))))))))))))))))))))))

  manifest_read : Reads Whole (manifest_reads metadata_of)
  manifest_read d h = table_reads (manifest_of metadata_of) manifest_members d h

  pub read_meets : (d : Data) (m : ManifestMeaning M) → without_floats (manifest_reads metadata_of) d ≡ Some m → Whole m
  read_meets d m is = (public_reads (manifest_reads metadata_of) manifest_read d).each m is

-- what was read of a tree without floats is as asked of what is written
pub unless_asked : {X : Type 0} (P : X → Type 0) (b : Bool) (x : X) → P x → IfSome (unless b x) P
unless_asked P b x h1 = grind arith

detail_members : (ms : Members) → MembersFloatless ms → Gives detail_way.asks (detail_of_table ms)
detail_members ms h =
    let unstable : Gives (EachValue Floatless) (others_read detail_keys (λ d. Some d) ms) = others_reads {P = Floatless} detail_keys (λ d. Some d) tree_reads ms h in
    search (bind, skip, gives_some {P = detail_way.asks}) depth 60 fits 4000

inherited_gives : (i : Option InheritedMeaning) (d : Option DetailMeaning) → Gives detail_way.asks d → Gives dependency_way.asks (inherited_or i d)
inherited_gives i d h1 = grind (arith, gives_some, mapped)

dependency_read : Reads dependency_way.asks dependency_of
unfolding dependency_of
dependency_read (string s) h = mapped {P = dependency_way.asks} (result_ok (req_of s)) simple (anything _) (λ x p. tt)
dependency_read (table ms) h = inherited_gives (strict_of ms) (detail_of_table ms) (detail_members ms h)
dependency_read _ h = gives_none

profile_holds : (p : ProfileMeaning) → IfSome p.opt_level Floatless → EachValue Floatless p.«package» → IfSome p.build_override Floatless → Gives profile_way.asks (Some p)
profile_holds p opt_level its_package build_override =
    gives_some {P = profile_way.asks} p (opt_level, (unless_asked (EachValue Floatless) (is_nil p.«package») p.«package» its_package, (build_override, tt)))

profile_members : (ms : Members) → MembersFloatless ms → Gives profile_way.asks (profile_of ms)
profile_members ms h =
    let opt_level : Gives (λ x. IfSome x Floatless) (optional_at "opt-level" (λ d. Some d) ms) = optional_reads {P = Floatless} "opt-level" (λ d. Some d) tree_reads ms h in
    let its_package : Gives (EachValue Floatless) (map_at "package" (λ d. Some d) ms) = map_at_reads {P = Floatless} "package" (λ d. Some d) tree_reads ms h in
    let build_override : Gives (λ x. IfSome x Floatless) (optional_at "build-override" (λ d. Some d) ms) = optional_reads {P = Floatless} "build-override" (λ d. Some d) tree_reads ms h in
    search (bind, skip, profile_holds) depth 60 fits 4000

profile_read : Reads profile_way.asks profile_reads
profile_read d h = table_reads profile_of profile_members d h

profiles_members : (ms : Members) → MembersFloatless ms → Gives profiles_way.asks (profiles_of ms)
profiles_members ms h =
    let one = λ (key : Words). optional_reads {P = profile_way.asks} key profile_reads profile_read ms h in
    (bind {P = profiles_way.asks} (optional_at "release" profile_reads ms) _ (one "release") (λ release h_release.
    (bind {P = profiles_way.asks} (optional_at "dev" profile_reads ms) _ (one "dev") (λ dev h_dev.
    (bind {P = profiles_way.asks} (optional_at "test" profile_reads ms) _ (one "test") (λ test h_test.
    (bind {P = profiles_way.asks} (optional_at "bench" profile_reads ms) _ (one "bench") (λ bench h_bench.
    (bind {P = profiles_way.asks} (optional_at "doc" profile_reads ms) _ (one "doc") (λ doc h_doc.
    (bind {P = profiles_way.asks} (others_read profile_keys profile_reads ms) _ (others_reads {P = profile_way.asks} profile_keys profile_reads profile_read ms h) (λ custom h_custom.
    gives_some {P = profiles_way.asks} _ (h_custom, (h_release, (h_dev, (h_test, (h_bench, (h_doc, tt))))))))))))))))))

lint_asked : (b : Bool) (l : LintMeaning) → EachValue Floatless l.config → AsksOf (lint_part b l)
lint_asked true l config = tt
lint_asked false l config = (config, tt)

lint_members : (ms : Members) → MembersFloatless ms → Gives lint_way.asks (table_lint ms)
lint_members ms h =
    let config : Gives (EachValue Floatless) (others_read lint_keys (λ d. Some d) ms) = others_reads {P = Floatless} lint_keys (λ d. Some d) tree_reads ms h in
    search (bind, skip, gives_some {P = lint_way.asks}, lint_asked) depth 30

lint_read : Reads lint_way.asks lint_of
lint_read (table ms) h = lint_members ms h
lint_read d h = mapped {P = lint_way.asks} (level_of d) level_alone (anything _) (λ x p. lint_asked (is_level_alone (level_alone x)) (level_alone x) (no_entries Floatless))

-- the rule of version 0.0.0 leaves the metadata
abbrev PackageAsked : PackageMeaning Data → Type 0
PackageAsked p = (package_way free_way).asks (by_zero_rule p)

ruled : (b : Bool) (p : PackageMeaning Data) → IfSome p.metadata Floatless → (package_way free_way).asks (if b then record p { publish = Set (everywhere false) } else p)
ruled b p h1 = grind arith

package_holds : (p : PackageMeaning Data) → IfSome p.metadata Floatless → Gives PackageAsked (Some p)
package_holds p metadata = gives_some {P = PackageAsked} p (ruled (zero_rule_applies p) p metadata)

any_read : Reads Floatless any_tree
any_read d h = public_reads (λ t. Some t) tree_reads d

package_members : (ms : Members) → MembersFloatless ms → Gives PackageAsked (package_of_table any_tree ms)
package_members ms h =
    let metadata : Gives (λ x. IfSome x Floatless) (optional_at "metadata" any_tree ms) = optional_reads {P = Floatless} "metadata" any_tree any_read ms h in
    search (bind, skip, package_holds) depth 80 fits 4000

package_read : Reads PackageAsked (package_reads any_tree)
unfolding package_reads
package_read d h = table_reads (package_of_table any_tree) package_members d h

abbrev pub as_asked : Asked Data
as_asked = record nothing_asked {
  metadata = Floatless;
  «package» = (package_way free_way).asks;
  dependency = dependency_way.asks;
  lint = lint_way.asks;
  profiles = profiles_way.asks;
}

pub asked_leaves : Leaves as_asked any_tree
asked_leaves = record {
  metadata = any_read;
  «package» = package_read;
  template = λ o. anything _;
  dependency = dependency_read;
  lint = lint_read;
  profiles = λ d h. table_reads profiles_of profiles_members d h;
  no_profile = (no_entries profile_way.asks, (tt, (tt, (tt, (tt, (tt, tt))))));
  features = λ o. anything _;
}

-- versions and requirements that a text says
pub version_text : (text : List ℕ) (v : Parts) → version_parts text ≡ Ok v → IsVersionAgain v
version_text text v h = ap version_parts (version_parts-sound text v h).0 ∙ h

version_from : (text : List ℕ) (r : Result Parts Error) → version_parts text ≡ r → Gives IsVersionAgain (result_ok r)
version_from text r h1 = grind (arith, gives_none, gives_some, version_text)

version_told : (d : Data) → Gives IsVersionAgain (version_of d)
version_told d = grind (arith, gives_none, version_from)

requirement_from : (text : List ℕ) (r : Result (List Held) Error) → req_of text ≡ r → Gives CanBeRead (result_ok r)
requirement_from text r h1 = grind (arith, gives_none, gives_some)

requirement_told : (d : Data) → Gives CanBeRead (requirement_of d)
requirement_told d = grind (arith, gives_none, requirement_from)

-- a value that may be missing
optional_told : {X : Type 0} (P : X → Type 0) (reads : Data → Option X) → ((d : Data) → Gives P (reads d)) → (o : Option Data) → Gives (λ x. IfSome x P) (optional_of reads o)
optional_told P reads h1 h2 = grind (arith, gives_some, mapped)

-- what is collected has other keys than those that are known
abbrev EachKey : {X : Type 0} → List (List ℕ) → List (List ℕ × X) → Type 0
EachKey {X = X} names es = All (λ (e : List ℕ × X). is_among names e.0 ≡ false) es

module _ {X : Type 0} (names : List (List ℕ)) (reads : Data → Option X) where
  one_other : (b : Bool) (k : List ℕ) (o : Option X) (rest : Option (List (List ℕ × X))) → is_among names k ≡ b → Gives (AreOthers names) rest
      → Gives (AreOthers names) (if b then rest else option_and_then (λ x. option_map (λ xs. (k, x) ∷ xs) rest) o)
  one_other b k o rest h1 h2 = grind (arith, mapped, skip)

  others_by : (ms : Members) → Gives (AreOthers names) (others_read names reads ms)
  others_by no_members = gives_some {P = AreOthers names} [] tt
  others_by (member k d ms) = one_other (is_among names k) k (reads d) _ refl (others_by ms)

  pub others_told : (ms : Members) → Gives (λ es. EachKey names es) (others_read names reads ms)
  others_told ms = record { each = λ es e. All-from_recursion (λ (x : List ℕ × X). is_among names x.0 ≡ false) es ((others_by ms).each es e) }

-- a detail, and what its table says of whether it is inherited
abbrev Told : Members → DetailMeaning → Type 0
Told ms x = DetailAgain x × (list_at "features" ms ≡ Some x.features) × (flag_at "optional" false ms ≡ Some x.optional) × (others_read detail_keys (λ d. Some d) ms ≡ Some x.unstable)

itself : {A : Type 0} (P : A → Type 0) (o : Option A) → Gives P o → Gives (λ x. P x × (o ≡ Some x)) o
itself P o h = record { each = λ x e. (h.each x e, e) }

detail_last : (ms : Members) (x : DetailMeaning) → IfSome x.version CanBeRead → (EachKey detail_keys x.unstable) × (others_read detail_keys (λ d. Some d) ms ≡ Some x.unstable)
    → Unit {0} × (list_at "features" ms ≡ Some x.features) → Unit {0} × (flag_at "optional" false ms ≡ Some x.optional) → x.inherited ≡ false → Gives (Told ms) (Some x)
detail_last ms x h1 h2 h3 h4 h5 = grind (arith, gives_some)

detail_told : (ms : Members) → Gives (Told ms) (detail_of_table ms)
detail_told ms =
    let version : Gives (λ v. IfSome v CanBeRead) (optional_at "version" requirement_of ms) = optional_told CanBeRead requirement_of requirement_told (get_member (codes "version") ms) in
    let features = itself (λ x. Unit {0}) (list_at "features" ms) (anything _) in
    let optional = itself (λ x. Unit {0}) (flag_at "optional" false ms) (anything _) in
    let collected = itself (EachKey detail_keys) (others_read detail_keys (λ d. Some d) ms) (others_told detail_keys (λ d. Some d) ms) in
    search (bind, skip, detail_last ms) depth 60 fits 4000

no_first : {A B C D : Type 0} (a : Option A) (b : Option B) (c : Option C) (y : B) (z : C) (f : A → B → C → D)
    → b ≡ Some y → c ≡ Some z → option_and_then (λ v. option_and_then (λ w. option_and_then (λ u. Some (f v w u)) c) b) a ≡ None → a ≡ None
no_first a b c y z f h1 h2 h3 = grind arith

not_workspace : (ms : Members) (x : DetailMeaning) → strict_of ms ≡ None → Told ms x → required_at "workspace" as_bool (members_of x.unstable) ≡ None
not_workspace ms x strict (again, features, optional, collected) =
    ap (required_of as_bool) (sym (other_member detail_keys (codes "workspace") ms x.unstable refl collected))
    ∙ no_first (required_at "workspace" as_bool ms) (list_at "features" ms) (flag_at "optional" false ms) x.features x.optional
    (λ v w u. record { features = w; optional = u; workspace = v }) features optional strict

-- a dependency: those that were read as a requirement or a detail are read again as they are, and so are all as what they are read
-- again as
abbrev pub ToldAgain : DependencyMeaning → Type 0
ToldAgain (simple r) = CanBeRead r
ToldAgain (inherited i) = Unit {0}
ToldAgain (detailed x) = DependencyAgain (detailed x)

of_either : (i : Option InheritedMeaning) (o : Option DetailMeaning) → (i ≡ None → Gives (λ x. DependencyAgain (detailed x)) o) → Gives ToldAgain (inherited_or i o)
of_either i o h1 = grind (arith, gives_some, mapped)

of_table : (ms : Members) → Gives ToldAgain (inherited_or (strict_of ms) (detail_of_table ms))
of_table ms = of_either (strict_of ms) (detail_of_table ms) (λ strict. record { each = λ x e. (((detail_told ms).each x e).0, not_workspace ms x strict ((detail_told ms).each x e)) })

pub read_again_told : (d : Data) → Gives ToldAgain (dependency_of d)
unfolding dependency_of
read_again_told d = grind (arith, gives_none, mapped, of_table, requirement_from)

reread_at : (b : Bool) (i : InheritedMeaning) → i.workspace ≡ b → DependencyAgain (if b then inherited i else detailed (record no_detail { features = i.features; optional = i.optional }))
reread_at b i h1 = grind (arith, All-from_recursion)

reread_told : (x : DependencyMeaning) → ToldAgain x → DependencyAgain (reread_dependency x)
reread_told x h1 = grind (arith, reread_at)

same_at : (b : Bool) (i : InheritedMeaning) → b ≡ true → (if b then inherited i else detailed (record no_detail { features = i.features; optional = i.optional })) ≡ inherited i
same_at b i h1 = grind (arith, false≢true)

-- what it is read again as is what it was, where it says so
pub stays : (x : DependencyMeaning) → ToldAgain x → SaysTrue x → reread_dependency x ≡ x
stays x h1 h2 = grind (arith, same_at)

-- features: each detail is of one of them, and says something
abbrev Written : Type 0
Written = List (List ℕ × (List (List ℕ) × Detail))

abbrev pub AreNamed : List (List ℕ) → List (List ℕ × Detail) → Type 0
AreNamed names es = AllByRecursion (λ e. IsTrue (is_among names e.0)) es

more : (b c : Bool) → IsTrue c → IsTrue (cond b true c)
more b c h1 = grind arith

named_more : (name : List ℕ) (names : List (List ℕ)) (es : List (List ℕ × Detail)) → AreNamed names es → AreNamed (name ∷ names) es
named_more name names [] h = tt
named_more name names (e ∷ es) h = (more (bytes_eq name e.0) (is_among names e.0) h.0, named_more name names es h.1)

named_first : (b : Bool) (name : List ℕ) (d : Detail) (names : List (List ℕ)) (es : List (List ℕ × Detail)) → AreNamed names es → AreNamed (name ∷ names) (cond b ((name, d) ∷ es) es)
named_first b name d names es h1 = grind (arith, bytes_eq-Decides, named_more)

named : (fs : Written) → AreNamed (keys_of (lists_of fs)) (details_of fs)
named [] = tt
named (f ∷ fs) = named_first (not (is_plain f.1.1)) f.0 f.1.1 (keys_of (lists_of fs)) (details_of fs) (named fs)

abbrev pub AreSaid : List (List ℕ × Detail) → Type 0
AreSaid es = AllByRecursion (λ e. is_plain e.1 ≡ false) es

said_first : (b : Bool) (name : List ℕ) (d : Detail) (es : List (List ℕ × Detail)) → is_plain d ≡ b → AreSaid es → AreSaid (cond (not b) ((name, d) ∷ es) es)
said_first b name d es h1 h2 = grind arith

said : (fs : Written) → AreSaid (details_of fs)
said [] = tt
said (f ∷ fs) = said_first (is_plain f.1.1) f.0 f.1.1 (details_of fs) refl (said fs)

told_apart : (fs : Written) → AreTold (apart fs)
told_apart fs = grind (arith, All-from_recursion, named, said)

features_told : (o : Option Data) → Gives AreTold (given_of features_of no_features o)
features_told None = gives_some {P = AreTold} no_features (told_apart [])
features_told (Some d) = mapped {P = AreTold} (map_of feature_of d) apart (anything (map_of feature_of d)) (λ fs _. told_apart fs)

-- lints and profiles collected other keys alone
lint_told : (d : Data) → Gives IsApart (lint_of d)
lint_told (table ms) =
    let config : Gives (EachKey lint_keys) (others_read lint_keys (λ d. Some d) ms) = others_told lint_keys (λ d. Some d) ms in
    search (bind, skip, gives_some {P = IsApart}) depth 30
lint_told d = mapped {P = IsApart} (level_of d) level_alone (anything _) (λ x p. All-from_recursion (λ (m : List ℕ × Data). is_among lint_keys m.0 ≡ false) [] tt)

profiles_told : (ms : Members) → Gives AreApart (profiles_of ms)
profiles_told ms =
    let custom : Gives (EachKey profile_keys) (others_read profile_keys profile_reads ms) = others_told profile_keys profile_reads ms in
    search (bind, skip, gives_some {P = AreApart}) depth 40

-- packages and templates have a version that a text says
template_members : (ms : Members) → Gives TemplateAgain (template_of ms)
template_members ms =
    let version : Gives (λ v. IfSome v IsVersionAgain) (optional_at "version" version_of ms) = optional_told IsVersionAgain version_of version_told (get_member (codes "version") ms) in
    search (bind, skip, gives_some {P = TemplateAgain}) depth 60 fits 4000

template_told : (d : Data) → Gives TemplateAgain (template_reads d)
unfolding template_reads
template_told d = grind (arith, gives_none, template_members)

module _ {M : Type 0} (metadata_of : Data → Option M) where
  ruled_version : (b : Bool) (p : PackageMeaning M) → VersionAgain p.version → VersionAgain ((if b then record p { publish = Set (everywhere false) } else p).version)
  ruled_version b p h1 = grind arith

  abbrev IsVersioned : PackageMeaning M → Type 0
  IsVersioned p = VersionAgain ((by_zero_rule p).version)

  package_last : (p : PackageMeaning M) → VersionAgain p.version → Gives IsVersioned (Some p)
  package_last p version = gives_some {P = IsVersioned} p (ruled_version (zero_rule_applies p) p version)

  package_versioned : (ms : Members) → MembersFloatless ms → Gives IsVersioned (package_of_table metadata_of ms)
  package_versioned ms h =
      let zero : Parts = (0, 0, 0, [], []) in
      let version : Gives VersionAgain (inherited_at "version" zero version_of ms)
      = given_reads {P = VersionAgain} "version" (Set zero) (inheritable_of version_of) (version_parts-complete zero (lit< tt, lit< tt, lit< tt, refl, refl))
      (inheritable_reads {P = IsVersionAgain} version_of (λ d free. version_told d)) ms h in
      skip _ _ (λ name. bind _ _ version (λ v told. search (skip, package_last) depth 80 fits 4000))

  package_told : Reads IsVersioned (package_reads metadata_of)
  unfolding package_reads
  package_told d h = table_reads (package_of_table metadata_of) package_versioned d h

  pub told_leaves : Leaves (told {M = M}) metadata_of
  told_leaves = record {
    metadata = λ d h. anything _;
    «package» = package_told;
    template = optional_told TemplateAgain template_reads template_told;
    dependency = λ d h. record { each = λ x e. reread_told x ((read_again_told d).each x e) };
    lint = λ d h. lint_told d;
    profiles = λ d h. table_reads profiles_of (λ ms free. profiles_told ms) d h;
    no_profile = All-from_recursion (λ (e : List ℕ × ProfileMeaning). is_among profile_keys e.0 ≡ false) [] tt;
    features = features_told;
  }

-- it is read again as what it was, where nothing in it says that it isn't
-- each value of a map stays where it is such, and is such besides
values_from : {X : Type 0} (P Q : X → Type 0) (f : X → X) → ((x : X) → P x → Q x → f x ≡ x) → (es : List (List ℕ × X))
    → AllByRecursion (λ (e : List ℕ × X). P e.1) es → AllByRecursion (λ (e : List ℕ × X). Q e.1) es → each_value f es ≡ es
values_from P Q f same [] h q = refl
values_from P Q f same (e ∷ es) h q =
    ap (λ x. (e.0, x) ∷ each_value f es) (same e.1 h.0 q.0) ∙ ap (λ xs. e ∷ xs) (values_from P Q f same es h.1 q.1)

values_stay : {X : Type 0} (P Q : X → Type 0) (f : X → X) → ((x : X) → P x → Q x → f x ≡ x) → (es : List (List ℕ × X)) → EachValue P es → EachValue Q es → each_value f es ≡ es
values_stay {X = X} P Q f same es h q =
    values_from P Q f same es (recursion_from_All (λ (e : List ℕ × X). P e.1) es h) (recursion_from_All (λ (e : List ℕ × X). Q e.1) es q)

entries_stay : (es : List (List ℕ × DependencyMeaning)) → EachValue ToldAgain es → EachValue SaysTrue es → each_value reread_dependency es ≡ es
entries_stay es h says = values_stay ToldAgain SaysTrue reread_dependency stays es h says

target_stays : (t : TargetMeaning) → TargetMeets ToldAgain t → TargetMeets SaysTrue t → reread_target t ≡ t
target_stays t h1 h2 = grind (arith, entries_stay)

-- the rule of version 0.0.0 does nothing twice
and_false : (b : Bool) → (b && false) ≡ false
and_false b = grind arith

ruled_twice : {M : Type 0} (b : Bool) (p : PackageMeaning M) → zero_rule_applies p ≡ b
    → by_zero_rule (if b then record p { publish = Set (everywhere false) } else p) ≡ (if b then record p { publish = Set (everywhere false) } else p)
ruled_twice b p h1 = grind (arith, and_false)

module _ {M : Type 0} where
  -- what holds of a manifest that was read
  abbrev pub kept : Asked M
  kept = record nothing_asked { «package» = λ p. by_zero_rule p ≡ p; dependency = ToldAgain }

  pub kept_leaves : (metadata_of : Data → Option M) → Leaves kept metadata_of
  kept_leaves metadata_of = record {
    metadata = λ d h. anything _;
    «package» = λ d h. record { each = λ p e. ruled_twice (zero_rule_applies p) p refl };
    template = λ o. anything _;
    dependency = λ d h. read_again_told d;
    lint = λ d h. anything _;
    profiles = λ d h. anything _;
    no_profile = tt;
    features = λ o. anything _;
  }

  package_stays : (x : Option (PackageMeaning M)) → IfSome x (λ p. by_zero_rule p ≡ p) → option_map by_zero_rule x ≡ x
  package_stays x h1 = grind arith

  workspace_stays : (x : Option (WorkspaceMeaning M)) → IfSome x (WorkspaceMeets kept) → IfSome x (WorkspaceMeets says_true) → option_map reread_workspace x ≡ x
  workspace_stays x h1 h2 = grind (arith, entries_stay)

  pub manifest_stays : (m : ManifestMeaning M) → ManifestMeets kept m → ManifestMeets says_true m → reread m ≡ m
  manifest_stays m h says =
      rw (
        package_stays m.«package» h.«package»,
        workspace_stays m.workspace h.workspace says.workspace,
        entries_stay m.dependencies h.dependencies says.dependencies,
        entries_stay m.dev_dependencies h.dev_dependencies says.dev_dependencies,
        entries_stay m.build_dependencies h.build_dependencies says.build_dependencies,
        values_stay (TargetMeets ToldAgain) (TargetMeets SaysTrue) reread_target target_stays m.target h.target says.target,
        entries_stay m.replace h.replace says.replace,
        values_stay (EachValue ToldAgain) (EachValue SaysTrue) (each_value reread_dependency) entries_stay m.patch h.patch says.patch,
      ) refl

infixr 20 ◌also◌
abbrev ◌also◌ : {A B : Type 0} → A → B → A × B
a also b = (a, b)

-- a manifest of which each part is as asked is as asked
abbrev Its : DependencyMeaning → Type 0
Its = dependency_way.asks

targets : (ts : List (List ℕ × TargetMeaning)) → AllByRecursion (λ (e : List ℕ × TargetMeaning). TargetMeets Its e.1) ts → AllByRecursion (λ (e : List ℕ × TargetMeaning). target_way.asks e.1) ts
targets [] all = tt
targets (t ∷ ts) all = ((all.0.dependencies, (all.0.dev_dependencies, (all.0.build_dependencies, tt))), targets ts all.1)

either_groups : (gs : Inheritable LintsByTool) → IfSet (EachValue (EachValue lint_way.asks)) gs → (inheritable_way lint_groups_way).asks gs
either_groups (Set gs) h = h
either_groups Inherited h = tt

workspace : (o : Option (WorkspaceMeaning Data)) → IfSome o (WorkspaceMeets as_asked) → IfSome o (workspace_way free_way).asks
workspace None h = tt
workspace (Some w) h = (h.metadata, (unless_asked (EachValue Its) (is_nil w.dependencies) w.dependencies h.dependencies, (unless_asked lint_groups_way.asks (is_nil w.lints) w.lints h.lints, tt)))

given_entries : (es : List (List ℕ × DependencyMeaning)) → EachValue Its es → IfSome (unless (is_nil es) es) dependencies_way.asks
given_entries es h = unless_asked dependencies_way.asks (is_nil es) es h

whole : (m : ManifestMeaning Data) → ManifestMeets as_asked m → (manifest_way free_way).asks m
whole m h =
    let each = All-from_recursion (λ (e : List ℕ × TargetMeaning). target_way.asks e.1) m.target (targets m.target (recursion_from_All (λ (e : List ℕ × TargetMeaning). TargetMeets Its e.1) m.target h.target)) in
    h.«package»
    also workspace m.workspace h.workspace
    also given_entries m.dependencies h.dependencies
    also given_entries m.dev_dependencies h.dev_dependencies
    also given_entries m.build_dependencies h.build_dependencies
    also unless_asked (map_way target_way).asks (is_nil m.target) m.target each
    also given_entries m.replace h.replace
    also unless_asked (map_way dependencies_way).asks (is_nil m.patch) m.patch h.patch
    also unless_asked profiles_way.asks (has_no_profile m.profile) m.profile h.profile
    also unless_asked (inheritable_way lint_groups_way).asks (is_set_and is_nil m.lints) m.lints (either_groups m.lints h.lints)
    also tt

pub tree_asked : (d : Data) (m : ManifestMeaning Data) → without_floats (manifest_reads any_tree) d ≡ Some m → (manifest_way free_way).asks m
tree_asked d m is = whole m (read_meets as_asked any_tree asked_leaves d m is)

pub tree_told : (d : Data) (m : ManifestMeaning Data) → without_floats (manifest_reads any_tree) d ≡ Some m → IsTold m
tree_told = read_meets told any_tree (told_leaves any_tree)

-- what holds of what trees are read as holds of what documents are
of_document : (P : ManifestMeaning Data → Type 0) → ((d : Data) (m : ManifestMeaning Data) → without_floats (manifest_reads any_tree) d ≡ Some m → P m)
    → (document : Option Members) (m : ManifestMeaning Data) → document_reads (manifest_reads any_tree) document ≡ Some m → P m
of_document P of_tree None m is = absurd cc
of_document P of_tree (Some ms) m is = of_tree (table ms) m is

pub document_asked : (document : Option Members) (m : ManifestMeaning Data) → document_reads (manifest_reads any_tree) document ≡ Some m → (manifest_way free_way).asks m
document_asked = of_document (manifest_way free_way).asks tree_asked

pub document_told : (document : Option Members) (m : ManifestMeaning Data) → document_reads (manifest_reads any_tree) document ≡ Some m → IsTold m
document_told = of_document (λ m. IsTold m) tree_told

pub document_stays : (document : Option Members) (m : ManifestMeaning Data) → document_reads (manifest_reads any_tree) document ≡ Some m → ManifestMeets says_true m → reread m ≡ m
document_stays document m is =
    manifest_stays m (of_document (ManifestMeets kept) (read_meets kept any_tree (kept_leaves any_tree)) document m is)
