-- Which outcome an answer meets.
use Rattle.cargo_toml_manifest.proofs.Cited.{AnswersHint, AnswersRoot, Bool, Choice, Completion, Data, Err, Error, Global, Handed, IsCompleted, List, Manifest, ManifestMeaning, MayFind, Meets, Name, None, Ok, Option, Outcome, RootsTold, Shared, Some, String, Told, ToldRoot, Value, Workspace, WorkspaceMeaning, [], ap, choice, false, from, gives, held, hint_of, inl}
use Rattle.cargo_toml_manifest.proofs.Cited.{inr, installed, manifest_meaning, no_root, no_workspace, open_root, option_map, own_choice, refl, refuses, root, shared, shared_of, string_bytes, sym, told_choice, true, untold, view, with_completion, with_found, workspace_meaning, ℕ, ◌∙◌, ◌≡◌}
use Rattle.std.specs.Prelude.{is_some}

-- what a root shares is what its workspace does
sharing : {X M : Type 0} (f : X → M) (workspace : Option (Workspace X)) → option_map shared (option_map (workspace_meaning f) workspace) ≡ shared_of workspace
sharing f None = refl
sharing f (Some w) = refl

abbrev pub Found : Type 0
Found = Manifest Value × String Global

abbrev pub found_at : Found → Choice
found_at x = from (Some (shared_of x.0.workspace, string_bytes x.1))

pub found_choice : (x : Found) → told_choice (root (manifest_meaning view x.0) (string_bytes x.1)) ≡ found_at x
found_choice x = ap (λ (s : Option Shared). from (Some (s, string_bytes x.1))) (sharing view x.0.workspace)

pub as_told : (m : ManifestMeaning _) (path : List ℕ) (x : Found) → (manifest_meaning view x.0 ≡ m) × (string_bytes x.1 ≡ path) → root m path ≡ root (manifest_meaning view x.0) (string_bytes x.1)
as_told m path x h = sym (ap (λ (n : ManifestMeaning _). root n (string_bytes x.1)) h.0 ∙ ap (λ (p : List ℕ). root m p) h.1)

-- the answer that a root is
pub found_answer : (found : ManifestMeaning Data → List ℕ → Type 0) (root_told : ToldRoot) (x : Found) → AnswersRoot root_told (Ok x) →
    found (manifest_meaning view x.0) (string_bytes x.1) → AnswersHint root_told found (root (manifest_meaning view x.0) (string_bytes x.1))
found_answer found (root r path) x a there = inl (as_told r path x a)
found_answer found no_root x a there = cc
found_answer found open_root x a there = inr (refl, there)

-- only the root of its hint counts
pub hint_alone : {M : Type 0} (m : ManifestMeaning M) (handed : Option Handed) (roots : RootsTold) → choice m handed (λ _. roots (hint_of m)) ≡ choice m handed roots
hint_alone m (Some handed) roots = refl
hint_alone m None roots = refl

-- from where it inherits without a workspace that is handed in
pub own_by_root : {M : Type 0} (o : Option (WorkspaceMeaning M)) (b : Bool) (t u : ToldRoot) → o ≡ None → b ≡ true → t ≡ u → own_choice (option_map shared o) b t ≡ told_choice u
own_by_root o b t u table needed same = rw (table, needed, same) refl

pub own_alone : {M : Type 0} (o : Option (WorkspaceMeaning M)) (b : Bool) (t : ToldRoot) → o ≡ None → b ≡ false → own_choice (option_map shared o) b t ≡ from None
own_alone o b t table needed = rw (table, needed) refl

pub own_by_table : {M : Type 0} (o : Option (Workspace M)) (b : Bool) (t : ToldRoot) → is_some o ≡ true →
    own_choice (option_map shared (option_map (workspace_meaning (λ x. x)) o)) b t ≡ from (Some (shared_of o, []))
own_by_table None b t there = absurd cc
own_by_table (Some w) b t there = refl

pub no_table : {M : Type 0} (o : Option (Workspace M)) → is_some o ≡ false → option_map (workspace_meaning (λ x. x)) o ≡ None
no_table None none = refl
no_table (Some w) none = cc

-- no root is looked up where a workspace is handed in
pub completed_handed : {M : Type 0} (old new : Manifest M) (handed : Handed) (roots : RootsTold) (f g : MayFind) (told : Name → Told) →
    IsCompleted old (Some handed) roots f told new → IsCompleted old (Some handed) roots g told new
completed_handed old new handed roots f g told h = record {
  outcome = h.outcome;
  given = (roots (hint_of (held old)), inl refl, h.given.2);
  needs_nothing = h.needs_nothing;
  filled = h.filled;
  again = h.again;
}

-- a refusal is one by the same outcome, whatever a success would have been
pub refused_again : {T U A : Type 0} (f : T → A) (g : U → A) (o : Outcome A) (e : Error) → Meets f o (Err e) → Meets g o (Err e)
refused_again f g (gives x) e h = h
refused_again f g (refuses faults) e h = h
refused_again f g (no_workspace path) e h = h
refused_again f g untold e h = tt

-- a success is one by the same outcome, where it means the same
pub given_again : {T U A : Type 0} (f : T → A) (g : U → A) (o : Outcome A) (t : T) (u : U) → g u ≡ f t → Meets f o (Ok t) → Meets g o (Ok u)
given_again f g (gives x) t u same h = same ∙ h
given_again f g (refuses faults) t u same h = h
given_again f g (no_workspace path) t u same h = h
given_again f g untold t u same h = tt

-- the parts are put in, and then what was found
pub put_in : {M : Type 0} (m k n : ManifestMeaning M) (new : Completion) →
    k ≡ installed m new.parts → n ≡ with_found k new.found → n ≡ with_completion m new
put_in m k n new h j = j ∙ ap (λ (x : ManifestMeaning _). with_found x new.found) h
