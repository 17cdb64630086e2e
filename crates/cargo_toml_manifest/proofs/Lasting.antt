-- What is completed leaves nothing to the workspace, and completing it again changes nothing.
use Rattle.cargo_toml_manifest.proofs.Cited.{Around, Bool, DependencyMeaning, DiscoveredMeaning, Entries, Err, Fault, Handed, IfSome, Inheritable, Inherited, InheritedMeaning, IsFilled, IsLasting, LintsByTool, List, Manifest, ManifestMeaning, Name, None, Ok, Option, Package, PackageMeaning, Result, RootsTold, Seen, Set, Shared, Some, StatedMeaning, TargetMeaning, TemplateMeaning, Told, ToldRoot, [], adds_nothing, any_field_left, any_left, any_target_left, ap, around, beside, complete}
use Rattle.cargo_toml_manifest.proofs.Cited.{complete_by, cond, detail_of_requirement, detailed, discovered, discovered-again, each, entry_at, false, faulty, files-own, filled_package, found_around, found_for, from, from_template, gives, held, hint_of, inherited, inherited_entries, inherited_entry, inherited_from, inherited_if_there, inherited_lints, inherited_manifest, inherited_package, inherited_target, inherited_targets, is_left, is_set}
use Rattle.cargo_toml_manifest.proofs.Cited.{list_any, needs, no_root, not, open_root, option_and_then, option_map, option_map_or, or_parts, own_choice, own_tables, package-kept, package_meaning, refl, restated, root, seen, seen_as, seen_at, shared, simple, stated_by, subst, sym, target-kept, target_left, targets-kept, then_found, true, unclear, wanted_by, with_discovered, with_entry, with_template_if_there, workspace_folder, ℕ, ◌>>=◌, ◌∙◌, ◌∷◌}
use Rattle.cargo_toml_manifest.proofs.Cited.{◌≡◌}
use Rattle.cargo_toml_manifest.proofs.Inherited.{then}

seen-from : {A B : Type 0} (f : A → B) (s : Seen A) (y : B) → seen_as f s ≡ seen y → (x : A) × (s ≡ seen x) × (f x ≡ y)
seen-from f (seen x) y h = let same : f x ≡ y = cc in (x, refl, same)
seen-from f (faulty faults) y h = cc
seen-from f unclear y h = cc

-- what holds of a manifest without a package and of what is discovered for one with a package, holds of what is found
by_package : {M : Type 0} (P : ManifestMeaning M → Type 0) (m n : ManifestMeaning M) (told : Name → Told)
    (o : Option (PackageMeaning M)) → m.«package» ≡ o →
    (m.«package» ≡ None → P m) →
    ((p : PackageMeaning M) (a : Around) → m.«package» ≡ Some p → around told (wanted_by p) ≡ seen a →
    P (with_discovered m p (discovered (stated_by m p) a))) →
    found_for m o told ≡ seen n → P n
by_package P m n told None is none there h = let same : m ≡ n = cc in subst P same (none is)
by_package P m n told (Some p) is none there h =
    let s = seen-from (λ a. with_discovered m p (discovered (stated_by m p) a)) (around told (wanted_by p)) n h in
    subst P s.2 (there p s.0 is s.1)

-- the package, once its files are found
abbrev with_files : {M : Type 0} → PackageMeaning M → DiscoveredMeaning → PackageMeaning M
with_files p d = record p { build = d.build; readme = Set d.readme }

stated-again : {M : Type 0} (m : ManifestMeaning M) (p : PackageMeaning M) (d : DiscoveredMeaning) →
    stated_by (with_discovered m p d) (with_files p d) ≡ restated (stated_by m p) d
stated-again m p d = refl

discovered-found : {M : Type 0} (m : ManifestMeaning M) (p : PackageMeaning M) (told : Name → Told) (a : Around)
    (d : DiscoveredMeaning) →
    discovered (stated_by m p) a ≡ d → around told (wanted_by p) ≡ seen a →
    found_around (with_discovered m p d) told ≡ seen (with_discovered m p d)
discovered-found m p told a d is at =
    let n = with_discovered m p d in
    let again : discovered (stated_by n (with_files p d)) a ≡ d =
    ap (λ (s : StatedMeaning). discovered s a) (stated-again m p d)
    ∙ ap (λ (e : DiscoveredMeaning). discovered (restated (stated_by m p) e) a) (sym is)
    ∙ discovered-again (stated_by m p) a ∙ is in
    ap (seen_as (λ b. with_discovered n (with_files p d) (discovered (stated_by n (with_files p d)) b))) at
    ∙ ap (λ (e : DiscoveredMeaning). seen (with_discovered n (with_files p d) e)) again

-- what is found is found again
pub found_again : {M : Type 0} (m n : ManifestMeaning M) (told : Name → Told) → found_around m told ≡ seen n →
    found_around n told ≡ seen n
found_again m n told h =
    by_package (λ k. found_around k told ≡ seen k) m n told m.«package» refl
    (λ none. ap (λ (o : Option (PackageMeaning _)). found_for m o told) none)
    (λ p a there at. discovered-found m p told a (discovered (stated_by m p) a) refl at) h

needs-discovered : {M : Type 0} (m : ManifestMeaning M) (p : PackageMeaning M) (d : DiscoveredMeaning) →
    m.«package» ≡ Some p → needs m ≡ false →
    needs (with_discovered m p d) ≡ false
needs-discovered m p d there none =
    let target = or_parts _ _ none in
    let build = or_parts _ _ target.0 in
    let dev = or_parts _ _ build.0 in
    let own = or_parts _ _ dev.0 in
    let lints = or_parts _ _ own.0 in
    let field : any_field_left p ≡ false =
    ap (λ (o : Option (PackageMeaning _)). option_map_or any_field_left o false) (sym there) ∙ lints.0 in
    rw (files-own p d.build d.readme field, lints.1, own.1, dev.1, build.1, target.1) refl

-- what is found leaves nothing to the workspace
pub needs_found : {M : Type 0} (m n : ManifestMeaning M) (told : Name → Told) → needs m ≡ false →
    found_around m told ≡ seen n → needs n ≡ false
needs_found m n told none h =
    by_package (λ k. needs k ≡ false) m n told m.«package» refl (λ _. none)
    (λ p a there at. needs-discovered m p (discovered (stated_by m p) a) there none) h

-- a step that led to a value gave one, and so did what follows
both : {A B : Type 0} (step : Result A Fault) (next : A → Result B Fault) (y : B) → ◌>>=◌ step next ≡ Ok y → (x : A) × (step ≡ Ok x) × (next x ≡ Ok y)
both (Ok x) next y h = (x, refl, h)
both (Err e) next y h = cc

abbrev gave : {A : Type 0} → A → Result A Fault
gave x = Ok x

same : {A : Type 0} (x y : A) → gave x ≡ Ok y → x ≡ y
same x y h = cc

-- where each is well, all are
each-done : {A B : Type 0} (f : A → Result B Fault) (bad : B → Bool) → ((x : A) (y : B) → f x ≡ Ok y → bad y ≡ false) →
    (xs : List A) (ys : List B) → each f xs ≡ Ok ys → list_any bad ys ≡ false
each-done f bad well [] ys h = ap (list_any bad) (sym (same [] ys h))
each-done f bad well (x ∷ xs) ys h =
    let first = both (f x) (λ y. ◌>>=◌ (each f xs) (λ zs. Ok (y ∷ zs))) ys h in
    let rest = both (each f xs) (λ zs. Ok (first.0 ∷ zs)) ys first.2 in
    let is = same (first.0 ∷ rest.0) ys rest.2 in
    ap (list_any bad) (sym is) ∙ rw (well x first.0 first.1) (each-done f bad well xs rest.0 rest.1)

beside-done : {B : Type 0} (bad : B → Bool) (key : List ℕ) (r : Result B Fault) (y : List ℕ × B) → ((x : B) → r ≡ Ok x → bad x ≡ false) → beside key r ≡ Ok y → bad y.1 ≡ false
beside-done bad key (Ok x) y well h = ap (λ (p : List ℕ × _). bad p.1) (sym (same (key, x) y h)) ∙ well x refl
beside-done bad key (Err e) y well h = cc

-- no dependency is inherited
chosen-done : (b : Bool) (x y d : DependencyMeaning) → is_left x ≡ false → is_left y ≡ false → cond b (gave x) (Ok y) ≡ Ok d → is_left d ≡ false
chosen-done true x y d p q h = ap is_left (sym (same x d h)) ∙ p
chosen-done false x y d p q h = ap is_left (sym (same y d h)) ∙ q

template-done : (base key : List ℕ) (entry : InheritedMeaning) (t : Option DependencyMeaning) (d : DependencyMeaning) → from_template base key entry t ≡ Ok d → is_left d ≡ false
template-done base key entry None d h = cc
template-done base key entry (Some (inherited other)) d h = cc
template-done base key entry (Some (simple r)) d h =
    chosen-done (adds_nothing entry) (simple r) (detailed (with_entry base entry (detail_of_requirement r))) d refl refl h
template-done base key entry (Some (detailed t)) d h = ap is_left (sym (same (detailed (with_entry base entry t)) d h))

entry-done : (templates : Option Entries) (base key : List ℕ) (d x : DependencyMeaning) → inherited_entry templates base key d ≡ Ok x → is_left x ≡ false
entry-done templates base key (inherited entry) x h = template-done base key entry (option_and_then (entry_at key) templates) x h
entry-done templates base key (simple r) x h = ap is_left (sym (same (simple r) x h))
entry-done templates base key (detailed d) x h = ap is_left (sym (same (detailed d) x h))

entries-done : (templates : Option Entries) (base : List ℕ) (es ds : Entries) → inherited_entries templates base es ≡ Ok ds → any_left ds ≡ false
entries-done templates base es ds h =
    each-done (λ e. beside e.0 (inherited_entry templates base e.0 e.1)) (λ e. is_left e.1)
    (λ e y k. beside-done is_left e.0 (inherited_entry templates base e.0 e.1) y (entry-done templates base e.0 e.1) k) es ds h

target-done : (templates : Option Entries) (base : List ℕ) (t u : TargetMeaning) → inherited_target templates base t ≡ Ok u →
    (any_left u.dependencies ≡ false) × (any_left u.dev_dependencies ≡ false) × (any_left u.build_dependencies ≡ false)
target-done templates base t u h =
    let a = both (inherited_entries templates base t.dependencies) _ u h in
    let b = both (inherited_entries templates base t.build_dependencies) _ u a.2 in
    let c = both (inherited_entries templates base t.dev_dependencies) _ u b.2 in
    let is = same (record { dependencies = a.0; dev_dependencies = c.0; build_dependencies = b.0 }) u c.2 in (
      ap (λ (v : TargetMeaning). any_left v.dependencies) (sym is) ∙ entries-done templates base t.dependencies a.0 a.1,
      ap (λ (v : TargetMeaning). any_left v.dev_dependencies) (sym is) ∙ entries-done templates base t.dev_dependencies c.0 c.1,
      ap (λ (v : TargetMeaning). any_left v.build_dependencies) (sym is) ∙ entries-done templates base t.build_dependencies b.0 b.1,
    )

one-target-done : (templates : Option Entries) (base : List ℕ) (t u : TargetMeaning) → inherited_target templates base t ≡ Ok u → target_left u ≡ false
one-target-done templates base t u h = let k = target-done templates base t u h in rw (k.0, k.1, k.2) refl

targets-done : (templates : Option Entries) (base : List ℕ) (ts us : List (List ℕ × TargetMeaning)) → inherited_targets templates base ts ≡ Ok us → any_target_left us ≡ false
targets-done templates base ts us h =
    each-done (λ e. beside e.0 (inherited_target templates base e.1)) (λ e. target_left e.1)
    (λ e y k. beside-done target_left e.0 (inherited_target templates base e.1) y (one-target-done templates base e.1) k) ts us h

-- nor are the lints
lints-done : (groups : Option LintsByTool) (l k : Inheritable LintsByTool) → inherited_lints groups l ≡ Ok k → is_set k ≡ true
lints-done groups (Set x) k h = ap is_set (sym (same (Set x) k h))
lints-done (Some x) Inherited k h = ap is_set (sym (same (Set x) k h))
lints-done None Inherited k h = cc

-- nor is a field of the package
checked-done : {M : Type 0} (b : Bool) (p q : PackageMeaning M) (f : Fault) → any_field_left p ≡ b → cond b (Err f) (Ok p) ≡ Ok q → any_field_left q ≡ false
checked-done true p q f e h = cc
checked-done false p q f e h = ap any_field_left (sym (same p q h)) ∙ e

package-done : {M : Type 0} (t : Option TemplateMeaning) (base : List ℕ) (p q : Option (PackageMeaning M)) → inherited_if_there t base p ≡ Ok q → option_map_or any_field_left q false ≡ false
package-done t base None q h = ap (λ (o : Option (PackageMeaning _)). option_map_or any_field_left o false) (sym (same None q h))
package-done t base (Some p) q h =
    let k = both (inherited_package t base p) (λ x. Ok (Some x)) q h in
    ap (λ (o : Option (PackageMeaning _)). option_map_or any_field_left o false) (sym (same (Some k.0) q k.2))
    ∙ checked-done (any_field_left (with_template_if_there base t p)) (with_template_if_there base t p) k.0 _ refl k.1

inherited-done : {M : Type 0} (templates : Option Entries) (groups : Option LintsByTool) (t : Option TemplateMeaning) (base : List ℕ) (m n : ManifestMeaning M) →
    inherited_from templates groups t base m ≡ Ok n → needs n ≡ false
inherited-done templates groups t base m n h =
    let a = both (inherited_target templates base (own_tables m)) _ n h in
    let b = both (inherited_targets templates base m.target) _ n a.2 in
    let c = both (inherited_lints groups m.lints) _ n b.2 in
    let d = both (inherited_if_there t base m.«package») _ n c.2 in
    let tables = target-done templates base (own_tables m) a.0 a.1 in
    let targets = targets-done templates base m.target b.0 b.1 in
    let lints = lints-done groups m.lints c.0 c.1 in
    let fields = package-done t base m.«package» d.0 d.1 in
    ap needs (sym (same _ n d.2)) ∙ rw (fields, lints, tables.0, tables.1, tables.2, targets) refl

seen-given : {A : Type 0} (path : Option (List ℕ)) (s : Seen A) (x : A) → seen_at path s ≡ gives x → s ≡ seen x
seen-given path (seen y) x h = cc
seen-given path (faulty faults) x h = cc
seen-given path unclear x h = cc

-- before this was found in folders, it was a manifest that left nothing to the workspace
pub record Completed {M : Type 0} (n : ManifestMeaning M) (told : Name → Told) : Type 0 where
  pub inherited : ManifestMeaning M
  pub none : needs inherited ≡ false
  pub found : found_around inherited told ≡ seen n

then-completed : {M : Type 0} (path : Option (List ℕ)) (told : Name → Told) (r : Result (ManifestMeaning M) Fault)
    (n : ManifestMeaning M) → ((k : ManifestMeaning M) → r ≡ Ok k → needs k ≡ false) → then_found path told r ≡ gives n →
    Completed n told
then-completed path told (Ok k) n well h =
    record { inherited = k; none = well k refl; found = seen-given path (found_around k told) n h }
then-completed path told (Err e) n well h = cc

from-completed : {M : Type 0} (workspace : Option Shared) (path : List ℕ) (m n : ManifestMeaning M) (told : Name → Told) →
    complete_by m (from (Some (workspace, path))) told ≡ gives n → Completed n told
from-completed workspace path m n told h =
    then-completed (Some path) told (inherited_manifest workspace (workspace_folder path) m) n
    (inherited-done (option_map (λ w. w.dependencies) workspace) (option_map (λ w. w.lints) workspace)
    (option_and_then (λ w. w.template) workspace) (workspace_folder path) m) h

own-completed : {M : Type 0} (m n : ManifestMeaning M) (told : Name → Told) (table : Option Shared) (b : Bool)
    (t : ToldRoot) → needs m ≡ b → complete_by m (own_choice table b t) told ≡ gives n → Completed n told
own-completed m n told (Some w) b t needed h = from-completed (Some w) [] m n told h
own-completed m n told None false t needed h =
    then-completed None told (Ok m) n (λ k e. ap needs (sym (same m k e)) ∙ needed) h
own-completed m n told None true (root r path) needed h = from-completed (option_map shared r.workspace) path m n told h
own-completed m n told None true no_root needed h = cc
own-completed m n told None true open_root needed h = cc

pub completed : {M : Type 0} (m n : ManifestMeaning M) (handed : Option Handed) (roots : RootsTold) (told : Name → Told) →
    complete m handed roots told ≡ gives n → Completed n told
completed m n (Some handed) roots told h = from-completed handed.0 handed.1 m n told h
completed m n None roots told h = own-completed m n told (option_map shared m.workspace) (needs m) (roots (hint_of m)) refl h

pub complete_done : {M : Type 0} (m n : ManifestMeaning M) (handed : Option Handed) (roots : RootsTold) (told : Name → Told) →
    complete m handed roots told ≡ gives n → needs n ≡ false
complete_done m n handed roots told h =
    let c = completed m n handed roots told h in
    needs_found c.inherited n told c.none c.found

-- all fields of its package are known then
package-known : {M : Type 0} (p : Option (Package M)) → option_map_or any_field_left (option_map (package_meaning (λ m. m)) p) false ≡ false → IfSome p IsFilled
package-known None h = tt
package-known (Some p) h = filled_package p h

pub known : {M : Type 0} (m : Manifest M) → needs (held m) ≡ false → IfSome m.«package» IsFilled
known m h = package-known m.«package» (or_parts _ _ (or_parts _ _ (or_parts _ _ (or_parts _ _ (or_parts _ _ h).0).0).0).0).0

lints-kept : (groups : Option LintsByTool) (lints : Inheritable LintsByTool) → not (is_set lints) ≡ false →
    inherited_lints groups lints ≡ Ok lints
lints-kept groups (Set x) none = refl
lints-kept groups Inherited none = cc

if_there-kept : {M : Type 0} (t : Option TemplateMeaning) (base : List ℕ) (p : Option (PackageMeaning M)) →
    option_map_or any_field_left p false ≡ false →
    inherited_if_there t base p ≡ Ok p
if_there-kept t base None none = refl
if_there-kept t base (Some p) none =
    then (inherited_package t base p) p (λ q. Ok (Some q)) (Some p) (package-kept t base p none) refl

-- where nothing is left to the workspace, inheritance changes nothing
pub nothing_left : {M : Type 0} (workspace : Option Shared) (base : List ℕ) (m : ManifestMeaning M) → needs m ≡ false →
    inherited_manifest workspace base m ≡ Ok m
nothing_left workspace base m none =
    let templates = option_map (λ w. w.dependencies) workspace in
    let groups = option_map (λ w. w.lints) workspace in
    let template = option_and_then (λ w. w.template) workspace in
    let target = or_parts _ _ none in
    let build = or_parts _ _ target.0 in
    let dev = or_parts _ _ build.0 in
    let own = or_parts _ _ dev.0 in
    let lints = or_parts _ _ own.0 in
    then (inherited_target templates base (own_tables m)) (own_tables m) _ m
    (target-kept templates base (own_tables m) own.1 dev.1 build.1)
    (then (inherited_targets templates base m.target) m.target _ m (targets-kept templates base m.target target.1)
    (then (inherited_lints groups m.lints) m.lints _ m (lints-kept groups m.lints lints.1)
    (then (inherited_if_there template base m.«package») m.«package» _ m
    (if_there-kept template base m.«package» lints.0) refl)))

-- a manifest that leaves nothing, and in which everything is found, stays
module _ {M : Type 0} (n : ManifestMeaning M) (told : Name → Told) (none : needs n ≡ false)
    (again : found_around n told ≡ seen n) where
  from-stays : (workspace : Option Shared) (path : List ℕ) → complete_by n (from (Some (workspace, path))) told ≡ gives n
  from-stays workspace path =
      ap (then_found (Some path) told) (nothing_left workspace (workspace_folder path) n none) ∙ ap (seen_at (Some path)) again

  own-stays : (table : Option Shared) (needed : Bool) (t : ToldRoot) → needed ≡ false →
      complete_by n (own_choice table needed t) told ≡ gives n
  own-stays (Some w) needed t h = from-stays (Some w) []
  own-stays None false t h = ap (seen_at None) again
  own-stays None true t h = cc

  stays : (handed : Option Handed) (roots : RootsTold) → complete n handed roots told ≡ gives n
  stays (Some handed) roots = from-stays handed.0 handed.1
  stays None roots = own-stays (option_map shared n.workspace) (needs n) (roots (hint_of n)) none

-- completing the result again gives it again
pub complete_lasts : {M : Type 0} (m : ManifestMeaning M) (handed : Option Handed) (n : ManifestMeaning M) →
    IsLasting m handed n
complete_lasts m handed n = λ roots told h.
    let c = completed m n handed roots told h in
    stays n told (needs_found c.inherited n told c.none c.found) (found_again c.inherited n told c.found) handed roots
