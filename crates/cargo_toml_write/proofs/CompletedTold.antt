-- What completion gives of a manifest that is told, from a workspace that is, is told.
use Rattle.cargo_toml_write.proofs.Cited.{All-from_recursion, AllByRecursion, Bool, CanBeRead, Choice, ChoiceIsTold, DependencyAgain, DependencyMeaning, EachValue, Entries, Err, Fault, Held, IfSet, IfSome, Inheritable, InheritedMeaning, IsApart, IsTold, IsVersionAgain, LintsByTool, List, ManifestMeaning, Name, None, Ok, Option, PackageMeaning, Parts, Result, Seen, Shared, SharedIsTold, Some, TargetMeaning, TargetMeets}
use Rattle.cargo_toml_write.proofs.Cited.{TemplateAgain, TemplateMeaning, VersionAgain, [], any_field_left, arith, around, beside, bytes_eq, complete_by, detail_of_requirement, detailed, discovered, each, entry_at, filled_field, found_for, from, from_template, gives, if◌then◌else◌, inherited, inherited_entries, inherited_entry, inherited_from, inherited_if_there, inherited_lints}
use Rattle.cargo_toml_write.proofs.Cited.{inherited_manifest, inherited_package, inherited_target, inherited_targets, lost, option_and_then, own_tables, recursion_from_All, refl, reread_dependency, result_ok, seen, seen_as, seen_at, simple, stated_by, then_found, unclear_root, wanted_by, with_discovered, with_entry, with_template_if_there, workspace_folder, ℕ, ◌>>=◌, ◌∷◌, ◌≡◌}
use Rattle.cargo_toml_write.proofs.ReadParts.{Gives, gives_none, gives_some}
use Rattle.cargo_toml_discovery.specs.Told as folders

-- what is answered, if no fault, is such
abbrev pub Yields : {A : Type 0} → (A → Type 0) → Result A Fault → Type 0
Yields P r = Gives P (result_ok r)

then_yields : {A B : Type 0} {Q : A → Type 0} {P : B → Type 0} (r : Result A Fault) (f : A → Result B Fault) → Yields Q r → ((x : A) → Q x → Yields P (f x)) → Yields P (◌>>=◌ r f)
then_yields r f h1 h2 = grind (arith, gives_none)

-- dependencies
abbrev Told : DependencyMeaning → Type 0
Told d = DependencyAgain (reread_dependency d)

abbrev AllTold : Entries → Type 0
AllTold es = AllByRecursion (λ (e : List ℕ × DependencyMeaning). Told e.1) es

at_key : (b : Bool) (d : DependencyMeaning) (rest : Option DependencyMeaning) → Told d → IfSome rest Told → IfSome (if b then Some d else rest) Told
at_key b d rest h1 h2 = grind arith

entry_told : (key : List ℕ) (es : Entries) → AllTold es → IfSome (entry_at key es) Told
entry_told key [] h = tt
entry_told key (e ∷ es) h = at_key (bytes_eq key e.0) e.1 (entry_at key es) h.0 (entry_told key es h.1)

lookup_told : (key : List ℕ) (templates : Option Entries) → IfSome templates AllTold → IfSome (option_and_then (entry_at key) templates) Told
lookup_told key templates h1 = grind (arith, entry_told)

simple_told : (b : Bool) (base : List ℕ) (entry : InheritedMeaning) (r : List Held) → CanBeRead r → Yields Told (if b then Ok (simple r) else Ok (detailed (with_entry base entry (detail_of_requirement r))))
simple_told b base entry r h1 = grind (arith, All-from_recursion, gives_some)

template_told : (base key : List ℕ) (entry : InheritedMeaning) (o : Option DependencyMeaning) → IfSome o Told → Yields Told (from_template base key entry o)
template_told base key entry o h1 = grind (arith, simple_told, gives_none, gives_some)

one_told : (templates : Option Entries) (base key : List ℕ) (d : DependencyMeaning) → IfSome templates AllTold → Told d → Yields Told (inherited_entry templates base key d)
one_told templates base key (simple r) all h = gives_some {P = Told} (simple r) h
one_told templates base key (inherited i) all h = template_told base key i (option_and_then (entry_at key) templates) (lookup_told key templates all)
one_told templates base key (detailed d) all h = gives_some {P = Told} (detailed d) h

each_yields : {A B : Type 0} (P : A → Type 0) (Q : B → Type 0) (f : A → Result B Fault) → ((x : A) → P x → Yields Q (f x)) → (xs : List A) → AllByRecursion P xs → Yields (AllByRecursion Q) (each f xs)
each_yields P Q f h [] all = gives_some {P = AllByRecursion Q} [] tt
each_yields P Q f h (x ∷ xs) all =
    then_yields {Q = Q} {P = AllByRecursion Q} (f x) _ (h x all.0) (λ y q.
    then_yields {Q = AllByRecursion Q} {P = AllByRecursion Q} (each f xs) _ (each_yields P Q f h xs all.1) (λ ys qs. gives_some {P = AllByRecursion Q} (y ∷ ys) (q, qs)))

beside_yields : {A : Type 0} (P : A → Type 0) (key : List ℕ) (r : Result A Fault) → Yields P r → Yields (λ (e : List ℕ × A). P e.1) (beside key r)
beside_yields P key r h1 = grind (arith, gives_none, gives_some)

values_yield : {A B : Type 0} (P : A → Type 0) (Q : B → Type 0) (f : List ℕ → A → Result B Fault) → ((key : List ℕ) (x : A) → P x → Yields Q (f key x)) → (es : List (List ℕ × A)) → EachValue P es
    → Yields (EachValue Q) (each (λ e. beside e.0 (f e.0 e.1)) es)
values_yield {A = A} {B = B} P Q f h es all =
    let some = each_yields (λ (e : List ℕ × A). P e.1) (λ (e : List ℕ × B). Q e.1) (λ (e : List ℕ × A). beside e.0 (f e.0 e.1)) (λ e p. beside_yields Q e.0 (f e.0 e.1) (h e.0 e.1 p)) es
    (recursion_from_All (λ (e : List ℕ × A). P e.1) es all) in
    record { each = λ xs is. All-from_recursion (λ (e : List ℕ × B). Q e.1) xs (some.each xs is) }

-- what a workspace gives, if there is one
module _ (templates : Option Entries) (base : List ℕ) (all : IfSome templates AllTold) where
  entries_told : (es : Entries) → EachValue Told es → Yields (EachValue Told) (inherited_entries templates base es)
  entries_told es h = values_yield Told Told (inherited_entry templates base) (λ key d h. one_told templates base key d all h) es h

  target_told : (t : TargetMeaning) → TargetMeets Told t → Yields (TargetMeets Told) (inherited_target templates base t)
  target_told t h = search (then_yields, entries_told, gives_some {P = TargetMeets Told}) depth 20

  targets_told : (ts : List (List ℕ × TargetMeaning)) → EachValue (TargetMeets Told) ts → Yields (EachValue (TargetMeets Told)) (inherited_targets templates base ts)
  targets_told ts h = values_yield (TargetMeets Told) (TargetMeets Told) (λ key t. inherited_target templates base t) (λ key t h. target_told t h) ts h

abbrev Lints : LintsByTool → Type 0
Lints = EachValue (EachValue IsApart)

lints_told : (groups : Option LintsByTool) (lints : Inheritable LintsByTool) → IfSome groups Lints → IfSet Lints lints → Yields (IfSet Lints) (inherited_lints groups lints)
lints_told groups lints h1 h2 = grind (arith, gives_none, gives_some)

-- packages
version_told : (v : Inheritable Parts) (given : Option Parts) → VersionAgain v → IfSome given IsVersionAgain → VersionAgain (filled_field v given)
version_told v given h1 h2 = grind arith

module _ {M : Type 0} where
  abbrev IsVersioned : PackageMeaning M → Type 0
  IsVersioned p = VersionAgain p.version

  filled_told : (template : Option TemplateMeaning) (base : List ℕ) (p : PackageMeaning M) → IfSome template TemplateAgain → IsVersioned p → IsVersioned (with_template_if_there base template p)
  filled_told template base p h1 h2 = grind (arith, version_told)

  checked_told : (b : Bool) (p : PackageMeaning M) (fault : Fault) → IsVersioned p → Yields IsVersioned (if b then Err fault else Ok p)
  checked_told b p fault h1 = grind (arith, gives_none, gives_some)

  package_told : (template : Option TemplateMeaning) (base : List ℕ) (o : Option (PackageMeaning M)) → IfSome template TemplateAgain → IfSome o IsVersioned
      → Yields (λ q. IfSome q IsVersioned) (inherited_if_there template base o)
  package_told template base None all h = gives_some {P = λ q. IfSome q IsVersioned} None tt
  package_told template base (Some p) all h =
      let q = with_template_if_there base template p in
      then_yields {Q = IsVersioned} {P = λ x. IfSome x IsVersioned} (inherited_package template base p) _ (checked_told (any_field_left q) q _ (filled_told template base p all h))
      (λ x h. gives_some {P = λ y. IfSome y IsVersioned} (Some x) h)

  manifest_told : (templates : Option Entries) (groups : Option LintsByTool) (template : Option TemplateMeaning) (base : List ℕ) (m : ManifestMeaning M)
      → IfSome templates AllTold → IfSome groups Lints → IfSome template TemplateAgain → IsTold m → Yields (λ n. IsTold n) (inherited_from templates groups template base m)
  manifest_told templates groups template base m all_entries all_lints all_template h =
      then_yields {Q = TargetMeets Told} {P = λ n. IsTold n} (inherited_target templates base (own_tables m)) _
      (target_told templates base all_entries (own_tables m) (record { dependencies = h.dependencies; dev_dependencies = h.dev_dependencies; build_dependencies = h.build_dependencies })) (λ tables h_tables.
      then_yields {Q = EachValue (TargetMeets Told)} {P = λ n. IsTold n} (inherited_targets templates base m.target) _ (targets_told templates base all_entries m.target h.target) (λ target h_target.
      then_yields {Q = IfSet Lints} {P = λ n. IsTold n} (inherited_lints groups m.lints) _ (lints_told groups m.lints all_lints h.lints) (λ lints h_lints.
      then_yields {Q = λ q. IfSome q IsVersioned} {P = λ n. IsTold n} (inherited_if_there template base m.«package») _ (package_told template base m.«package» all_template h.«package») (λ its_package h_package.
      gives_some {P = λ n. IsTold n} _ (record { «package» = h_package; workspace = h.workspace; dependencies = h_tables.dependencies; dev_dependencies = h_tables.dev_dependencies; build_dependencies = h_tables.build_dependencies; target = h_target; replace = h.replace; patch = h.patch; profile = h.profile; lints = h_lints; features = h.features })))))

  -- what is found in folders are products
  seen_told : {A : Type 0} (path : Option (List ℕ)) (s : Seen A) (f : A → ManifestMeaning M) → ((a : A) → IsTold (f a)) → (n : ManifestMeaning M) → seen_at path (seen_as f s) ≡ gives n → IsTold n
  seen_told path s f h1 n h2 = grind arith

  found_told : (path : Option (List ℕ)) (folder : Name → folders.Told) (m : ManifestMeaning M) (o : Option (PackageMeaning M)) → IsTold m → IfSome o IsVersioned
      → (n : ManifestMeaning M) → seen_at path (found_for m o folder) ≡ gives n → IsTold n
  found_told path folder m None h version n is = seen_told path (seen m) (λ (x : ManifestMeaning M). m) (λ a. h) n is
  found_told path folder m (Some p) h version n is =
      seen_told path (around folder (wanted_by p)) (λ a. with_discovered m p (discovered (stated_by m p) a))
      (λ a. record { «package» = version; workspace = h.workspace; dependencies = h.dependencies; dev_dependencies = h.dev_dependencies; build_dependencies = h.build_dependencies; target = h.target; replace = h.replace; patch = h.patch; profile = h.profile; lints = h.lints; features = h.features }) n is

  then_told : (path : Option (List ℕ)) (folder : Name → folders.Told) (r : Result (ManifestMeaning M) Fault) → Yields (λ n. IsTold n) r → (n : ManifestMeaning M) → then_found path folder r ≡ gives n → IsTold n
  then_told path folder (Ok m) h n is = let whole : IsTold m = h.each m refl in found_told path folder m m.«package» whole whole.«package» n is
  then_told path folder (Err fault) h n is = absurd cc

  from_told : (w : Option Shared) (path : List ℕ) (m : ManifestMeaning M) → IfSome w SharedIsTold → IsTold m → Yields (λ n. IsTold n) (inherited_manifest w path m)
  from_told w path m h1 h2 = grind (arith, manifest_told, recursion_from_All)

  pub completed_told : (m n : ManifestMeaning M) (choice : Choice) (folder : Name → folders.Told) → IsTold m → ChoiceIsTold choice → complete_by m choice folder ≡ gives n → IsTold n
  completed_told m n (from None) folder h all is = then_told None folder (Ok m) (gives_some {P = λ x. IsTold x} m h) n is
  completed_told m n (from (Some w)) folder h all is = then_told (Some w.1) folder (inherited_manifest w.0 (workspace_folder w.1) m) (from_told w.0 (workspace_folder w.1) m all h) n is
  completed_told m n lost folder h all is = absurd cc
  completed_told m n unclear_root folder h all is = absurd cc
