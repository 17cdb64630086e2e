-- What is inherited, step by step, until a fault.
use Rattle.cargo_toml_manifest.proofs.Cited.{Entries, Err, Error, Fault, Inheritable, LintsByTool, List, ManifestMeaning, Memory, Ok, Option, PackageMeaning, Result, TargetMeaning, TemplateMeaning, fault_of, inherited_entries, inherited_from, inherited_if_there, inherited_lints, inherited_target, inherited_targets, inl, inr, own_tables, refl, ℕ, ◌>>=◌, ◌≡◌, ◌⊎◌}

-- what is known of a refusal
abbrev pub Refuses : {A : Type 0} → Result A Fault → Error → Type 0
Refuses stated e = (e ≡ Memory) ⊎ (stated ≡ Err (fault_of e))

-- the step is refused
pub stops : {A B : Type 0} (step : Result A Fault) (next : A → Result B Fault) (e : Error) → Refuses step e → Refuses (◌>>=◌ step next) e
stops step next e (inl memory) = inl memory
stops step next e (inr h) = inr (rw h refl)

-- the step gives this, and what follows is refused
pub later : {A B : Type 0} (step : Result A Fault) (x : A) (next : A → Result B Fault) (e : Error) → step ≡ Ok x → Refuses (next x) e → Refuses (◌>>=◌ step next) e
later step x next e h (inl memory) = inl memory
later step x next e h (inr k) = inr (rw h k)

-- the step gives this, and what follows gives that
pub then : {A B : Type 0} (step : Result A Fault) (x : A) (next : A → Result B Fault) (y : B) → step ≡ Ok x → next x ≡ Ok y → (◌>>=◌ step next) ≡ Ok y
then step x next y h k = rw h k

-- the tables
module _ (templates : Option Entries) (base : List ℕ) (t : TargetMeaning) where
  pub stops_at_build : (ds : Entries) (e : Error) → inherited_entries templates base t.dependencies ≡ Ok ds →
      Refuses (inherited_entries templates base t.build_dependencies) e → Refuses (inherited_target templates base t) e
  stops_at_build ds e d h = later _ ds _ e d (stops _ _ e h)

  pub stops_at_dev : (ds bs : Entries) (e : Error) → inherited_entries templates base t.dependencies ≡ Ok ds →
      inherited_entries templates base t.build_dependencies ≡ Ok bs →
      Refuses (inherited_entries templates base t.dev_dependencies) e → Refuses (inherited_target templates base t) e
  stops_at_dev ds bs e d b h = later _ ds _ e d (later _ bs _ e b (stops _ _ e h))

-- the whole
module _ {M : Type 0} (templates : Option Entries) (groups : Option LintsByTool) (template : Option TemplateMeaning)
    (base : List ℕ) (m : ManifestMeaning M) where
  pub stops_at_lints : (t : TargetMeaning) (ts : List (List ℕ × TargetMeaning)) (e : Error) →
      inherited_target templates base (own_tables m) ≡ Ok t → inherited_targets templates base m.target ≡ Ok ts →
      Refuses (inherited_lints groups m.lints) e → Refuses (inherited_from templates groups template base m) e
  stops_at_lints t ts e a b h = later _ t _ e a (later _ ts _ e b (stops _ _ e h))

  pub stops_at_package : (t : TargetMeaning) (ts : List (List ℕ × TargetMeaning)) (l : Inheritable LintsByTool) (e : Error) →
      inherited_target templates base (own_tables m) ≡ Ok t → inherited_targets templates base m.target ≡ Ok ts →
      inherited_lints groups m.lints ≡ Ok l → Refuses (inherited_if_there template base m.«package») e →
      Refuses (inherited_from templates groups template base m) e
  stops_at_package t ts l e a b c h = later _ t _ e a (later _ ts _ e b (later _ l _ e c (stops _ _ e h)))

  pub all_given : (t : TargetMeaning) (ts : List (List ℕ × TargetMeaning)) (l : Inheritable LintsByTool) (p : Option (PackageMeaning M)) →
      inherited_target templates base (own_tables m) ≡ Ok t → inherited_targets templates base m.target ≡ Ok ts →
      inherited_lints groups m.lints ≡ Ok l → inherited_if_there template base m.«package» ≡ Ok p →
      inherited_from templates groups template base m
      ≡ Ok (record m {
        «package» = p;
        dependencies = t.dependencies;
        dev_dependencies = t.dev_dependencies;
        build_dependencies = t.build_dependencies;
        target = ts;
        lints = l;
      })
  all_given t ts l p a b c d = then _ t _ _ a (then _ ts _ _ b (then _ l _ _ c (then _ p _ _ d refl)))
