-- A manifest without a first key that is left to a workspace needs none.
use Rattle.cargo_toml_tools.proofs.Cited.{[], ◌∙◌, ◌∷◌, ◌≡◌, ◌||◌, ap, Bool, Entries, Error, Error-F, Fault, Global, IsRefusedAt, IsRefusedBy, Left, List, ManifestMeaning, None, Option, PackageMeaning, Some, String, TargetMeaning, Text, ToldRoot, WorkspaceIntegrity, WorkspaceMeaning, any_field_left, any_left, arith, false, false≢true, fault_of, fault_step, first_left, first_of, fold-roll-Error, if◌then◌else◌, inl, inr, is_some, leavable_rows, left_entry, left_if, left_in, left_in_package, left_key, left_target, left_words, list_any, needed, needs, no_root_found, no_roots, option_map, option_map_or, option_or, own_choice, refl, rolls-WorkspaceIntegrity, shared, string_bytes, subst, sym, target_left, true, workspace_integrity}

none_parts : {A : Type 0} (a b : Option A) → option_or a b ≡ None → (a ≡ None) × (b ≡ None)
none_parts None b is = (refl, is)
none_parts (Some x) b is = grind arith

none_if : (b : Bool) (l : Left) → left_if b l ≡ None → b ≡ false
none_if false l is = refl
none_if true l is = grind arith

none_any : {A B : Type 0} (f : A → Option B) (g : A → Bool) (xs : List A) → ((x : A) → f x ≡ None → g x ≡ false) → first_of f xs ≡ None → list_any g xs ≡ false
none_any f g [] each is = refl
none_any f g (x ∷ xs) each is =
    let p = none_parts (f x) (first_of f xs) is in
    rw (each x p.0, none_any f g xs each p.1) refl

mapped_none : {A B : Type 0} (f : A → B) (o : Option A) → option_map f o ≡ None → o ≡ None
mapped_none f None is = refl
mapped_none f (Some x) is = grind arith

key_none : (row : Text × Bool) → left_key row ≡ None → row.1 ≡ false
key_none (key, false) is = refl
key_none (key, true) is = grind arith

package_none : {M : Type 0} (o : Option (PackageMeaning M)) → left_in_package (option_map_or leavable_rows o []) ≡ None → option_map_or any_field_left o false ≡ false
package_none None is = refl
package_none (Some p) is = none_any left_key (λ r. r.1) (leavable_rows p) key_none (mapped_none _ _ is)

table_none : (target : Option Text) (table : Text) (es : Entries) → first_of (left_entry target table) es ≡ None → any_left es ≡ false
table_none target table es is = none_any (left_entry target table) _ es (λ e. none_if _ _) is

tables_none : (target : Option Text) (d v b : Entries) → left_in target d v b ≡ None → (any_left d ≡ false) × ((any_left v ≡ false) × (any_left b ≡ false))
tables_none target d v b is =
    let p = none_parts _ _ is in
    let q = none_parts _ _ p.0 in
    (table_none _ _ d q.0, (table_none _ _ v q.1, table_none _ _ b p.1))

target_none : (t : Text × TargetMeaning) → left_target t ≡ None → target_left t.1 ≡ false
target_none t is =
    let p = tables_none (Some t.0) t.1.dependencies t.1.dev_dependencies t.1.build_dependencies is in
    rw (p.0, p.1.0, p.1.1) refl

pub needs_none : {M : Type 0} (m : ManifestMeaning M) → first_left m ≡ None → needs m ≡ false
needs_none m is =
    let p = none_parts _ _ is in
    let q = none_parts _ _ p.0 in
    let r = none_parts _ _ q.0 in
    let own = tables_none None m.dependencies m.dev_dependencies m.build_dependencies q.1 in
    rw (package_none m.«package» r.0, none_if _ _ r.1, own.0, own.1.0, own.1.1, none_any left_target _ m.target target_none p.1) refl

-- then a refusal is not of a root
at_own : {M : Type 0} (m : ManifestMeaning M) (o : Option (WorkspaceMeaning M)) (n : Bool) (answer : ToldRoot) (roots other : Option Text → Fault → Type 0) (names : Text → Fault → Type 0) (e : Error)
    → (o ≡ None → n ≡ false) → IsRefusedAt m roots names (own_choice (option_map shared o) n answer) e → IsRefusedAt m other names (own_choice (option_map shared o) n answer) e
at_own m (Some w) n answer roots other names e needless x = x
at_own m None false answer roots other names e needless x = x
at_own m None true answer roots other names e needless x = absurd (false≢true (sym (needless refl)))

-- a refusal of a completion without roots, of a manifest that needs none
pub refused_own : {M : Type 0} (m : ManifestMeaning M) (roots other : Option Text → Fault → Type 0) (names : Text → Fault → Type 0) (e : Error)
    → needed m ≡ None → IsRefusedBy m None no_roots no_root_found roots names e → IsRefusedBy m None no_roots no_root_found other names e
refused_own m roots other names e is r = elim r [
  | inl memory ↦ inl memory
  | inr told ↦ inr (told.0, (told.1.0, at_own m m.workspace (needs m) told.0 roots other names e (λ none. needs_none m (subst (λ o. (if is_some o then None else first_left m) ≡ None) none is)) told.1.1))
]

-- the fault that names a key
pub left_fault : (s : String Global) (left : Left) → string_bytes s ≡ left_words left → fault_of (WorkspaceIntegrity s) ≡ workspace_integrity (left_words left)
left_fault s left same = ap fault_of (sym (rolls-WorkspaceIntegrity s)) ∙ fold-roll-Error Fault fault_step (Error-F.WorkspaceIntegrity s) ∙ ap workspace_integrity same
