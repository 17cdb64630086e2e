-- Which features are documented, and what each turns on.
use Rattle.std.specs.Prelude.{◌≡◌, ◌↔◌, ◌&&◌, ◌||◌, Bool, false, if◌then◌else◌, IfSome, IsSome}
use Rattle.std.specs.Prelude.{IsTrue, List, None, Option, Some, bytes_eq, codes, map, nat_eq, not}
use Rattle.std.specs.Prelude.{option_and_then}
use Rattle.std.specs.List.{AllByRecursion, list_any, starts_with}
use Rattle.std.specs.{Borrow.Bor, HashMap.HashMap, Option.option_copied, Option.option_map_or}
use Rattle.cargo_toml.specs.Action.{Action, IsJoin, Text}
use Rattle.cargo_toml.specs.Views.{action_at, set_has, table_in, value_at}
use Rattle.cargo_toml.specs.{Ascending.Ascend, Feature.Feature, Graph.Table}
use Rattle.cargo_toml.specs.{Manifests.ManifestMeaning, Reach.Among, Recursive.Enables}
use Rattle.cargo_toml_lint.specs.Turning.{turning}
use Rattle.cargo_toml_tools.specs.declared.document.{listing.Row.Row, reached.Reached.Reached}

-- hidden by its name, or private by its table
abbrev pub is_internal : Feature → Bool
is_internal f = not f.public || starts_with nat_eq f.key.now (codes "_")

-- the feature x is told of beside that of this name: it is another one, neither hidden nor private
abbrev pub is_beside : {S : Type 0} → HashMap (Bor Text) Feature S → Text → Text → Bool
is_beside m name x = option_map_or
    (λ f. not (bytes_eq f.key.now name) && not (is_internal f)) (value_at m x) false

-- the feature of a name, if it is told of: `default` only where the manifest has it
abbrev pub told_at : {S : Type 0} → HashMap (Bor Text) Feature S → Bool → Text → Option Feature
told_at m has_default f = option_and_then
    (λ v. if not (is_internal v) && (has_default || not (bytes_eq v.key.now (codes "default")))
    then Some v else None) (value_at m f)

-- some feature g, for which `Of g` holds, does a to the dependency k
abbrev pub ActsOf : {S : Type 0} → HashMap (Bor Text) Feature S → (Text → Type 0) → Text → Action
    → Type 0
ActsOf m Of k a = (g : Text) × Of g × ((table_in m).action g k ≡ Some a)

-- by a table of what features turn on, and the features as they are resolved
module _ {S : Type 0} (t : Table) (m : HashMap (Bor Text) Feature S) where
  -- f turns x on, by any number of steps
  abbrev pub IsOn : Text → Text → Type 0
  IsOn f x = IsTrue (t.has f) × Enables t f x

  -- what is reached from f: the others that are told of, and what is done to each dependency,
  -- joined of all that f turns on: of f itself and of hidden features, too
  pub record IsReachedFrom (f : Text) (r : Reached) : Type 0 where
    pub features : (x : Text) → IsTrue (set_has r.features x)
        ↔ (IsOn f x × IsTrue (is_beside m f x))
    pub actions : (k : Text) → IsJoin (ActsOf m (IsOn f) k) (action_at r.actions k)

  -- the row tells of the feature v
  pub record IsRowOf (r : Row) (v : Feature) : Type 0 where
    pub name : r.name.now ≡ v.key.now
    pub is_listed : r.is_listed ≡ v.explicit
    pub doc : option_copied r.doc ≡ option_copied v.doc
    pub is_default : IsTrue r.is_default ↔ IsOn (codes "default") v.key.now
    pub reached : IsReachedFrom v.key.now r.turns_on

  -- the rows are those of all features that are told of, in byte order of their names
  pub record AreRows (has_default : Bool) (rows : List Row) : Type 0 where
    pub names : (x : Text) → Among (map (λ r. r.name.now) rows) x ↔ IsSome (told_at m has_default x)
    pub in_order : Ascend (map (λ r. r.name.now) rows)
    pub each : AllByRecursion (λ r. IfSome (told_at m has_default r.name.now) (IsRowOf r)) rows

-- the manifest has a list of `default`
abbrev pub lists_default : {M : Type 0} → ManifestMeaning M → Bool
lists_default d = list_any (λ f. bytes_eq (codes "default") f.0) d.features

-- the same of a manifest, by what its features turn on
abbrev pub AreRowsOf : {M S : Type 0} → ManifestMeaning M → HashMap (Bor Text) Feature S
    → List Row → Type 0
AreRowsOf d m rows = AreRows (turning d (table_in m).has) m (lists_default d) rows
