-- What a report says of a manifest.
use Rattle.std.specs.Prelude.{◌≢◌, ◌↔◌, IsTrue, List, map, filter, Vec, codes}
use Rattle.std.specs.{Borrow.Bor, Cmp.Lexicographic.slice_cmp, List.Sorted.IsStrictlySortedBy}
use Rattle.std.specs.{Ordering.nat_cmp, declared.alloc.Global.Global}
use Rattle.cargo_toml.specs.{Dependencies.DependencyMeaning, Dependencies.is_optional, Action.Text}
use Rattle.cargo_toml.specs.{Graph.Table, Graph.Edge, Reach.Among}
use Rattle.cargo_toml_resolve.specs.Texts.{texts_now}

-- borrowed texts, read
abbrev pub texts : Vec (Bor Text) Global → List Text
texts v = texts_now v.items

-- the keys of the optional dependencies, in their order
abbrev pub optional_keys : List (Text × DependencyMeaning) → List Text
optional_keys entries = map (λ e. e.0) (filter (λ e. is_optional e.1) entries)

-- a feature other than `default` that no feature enables
pub record IsUnreferenced (t : Table) (f : Text) : Type 0 where
  pub known : IsTrue (t.has f)
  pub named : f ≢ codes "default"
  pub alone : (e : Text) → ¬ Edge t e f

-- the names are those of the unreferenced features, in byte order and each once
pub record AreUnreferenced (t : Table) (names : List Text) : Type 0 where
  pub exact : (f : Text) → Among names f ↔ IsUnreferenced t f
  pub in_order : IsStrictlySortedBy (slice_cmp nat_cmp) names
