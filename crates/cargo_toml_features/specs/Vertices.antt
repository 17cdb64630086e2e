-- The features of a manifest as vertices, and how listed ones and implied ones are merged.
use Rattle.std.specs.Prelude.{◌≡◌, ◌+◌, ◌<◌, ◌≤◌, ◌++◌, ◌∷◌, ◌||◌, [], Bool, true, false, List, map}
use Rattle.std.specs.Prelude.{take, drop, length, Option, Some, None, IfSome, MatchOption, is_some}
use Rattle.std.specs.Prelude.{bytes_eq, string_bytes, unwrap_or, codes, if◌then◌else◌}
use Rattle.std.specs.{List.find, Map.lookup, Option.IsSomeAnd, Borrow.Bor}
use Rattle.cargo_toml_features.specs.{declared.admit.Listing.Listing, Searching.is_one_of}
use Rattle.cargo_toml_features.specs.Marks.{NamedDetails, detail_in, detail_listed}
use Rattle.cargo_toml_features.specs.{Places.nth_text, Said.StandAt, Said.texts_in}
use Rattle.cargo_toml_features.specs.declared.vertices.Merge.{Merge}
use Rattle.cargo_toml_features.specs.declared.vertices.Span.{Span}
use Rattle.cargo_toml_features.specs.declared.vertices.Vertex.{Vertex}
use Rattle.cargo_toml_graph.specs.{Action.Text, Admitted.Listed, Admitted.is_below}
use Rattle.cargo_toml_graph.specs.{Admitted.is_explicit, Ascending.Ascend}
use Rattle.cargo_toml_package.specs.Details.{Detail, plain_detail}

abbrev pub vertex_names : List Vertex → List Text
vertex_names vs = map (λ v. v.name.now) vs

-- the vertex of a name
abbrev pub vertex_at : List Vertex → Text → Option Vertex
vertex_at vs f = find (λ v. bytes_eq f v.name.now) vs

-- the span is where these texts stand
pub record IsSpanOf (all : List Text) (s : Span) (texts : List Text) : Type 0 where
  pub stand : StandAt all s.start texts
  pub ends : s.end ≡ s.start + length texts

-- the vertex of f: whether it is listed, its texts among all, and what is said of it
pub record IsVertex (all : List Text) (f : Text) (explicit : Bool) (texts : List Text)
    (d : Detail) (v : Vertex) : Type 0 where
  pub name : v.name.now ≡ f
  pub is_listed : v.is_listed ≡ explicit
  pub items : IsSpanOf all v.items texts
  pub detail : detail_in v.detail ≡ d

-- the features that are listed, and those that are implied: each once, in byte order
pub record AreVertices (listed : Listed) (details : NamedDetails) (implied : Text → Bool)
    (vs : List Vertex) : Type 0 where
  pub ascend : Ascend (vertex_names vs)
  pub has : (f : Text) → is_some (vertex_at vs f) ≡ (is_explicit listed f || implied f)
  pub told : (f : Text) → IfSome (vertex_at vs f)
      (IsVertex (texts_in listed) f (is_explicit listed f)
      (unwrap_or (lookup (bytes_eq f) listed) []) (detail_listed listed details f))

-- ---- while they are merged
-- a name with its texts, and what is said of it
abbrev pub Told : Type 0
Told = List (Text × (List Text × Detail))

abbrev pub told_of : List Listing → Told
told_of ls = map (λ l. (l.name.now, (map string_bytes l.actions.now, detail_in l.detail))) ls

abbrev pub told_names : Told → List Text
told_names told = map (λ e. e.0) told

abbrev pub listing_names : List Listing → List Text
listing_names ls = map (λ l. l.name.now) ls

-- the keys that are merged, and those that aren't yet
abbrev pub taken_keys : Merge → List Text
taken_keys m = map (λ k. k.now) (take m.next m.keys.now)

abbrev pub left_keys : Merge → List Text
left_keys m = map (λ k. k.now) (drop m.next m.keys.now)

-- the names so far, and then those of the keys that are left, ascend
abbrev pub IsMergedInOrder : Merge → Type 0
IsMergedInOrder m = Ascend (vertex_names m.all.items ++ left_keys m)

-- what stands at f: a listed one, or else an implied one where its key is taken
abbrev pub Merged : List Text → Option (List Text × Detail) → Bool → Text → Option Vertex → Type 0
Merged all (Some e) taken f o = IsSomeAnd o (IsVertex all f true e.0 e.1)
Merged all None true f o = IsSomeAnd o (IsVertex all f false [] plain_detail)
Merged all None false f o = o ≡ None

-- what is merged is what is told so far, and the keys that are taken
pub record IsMerged (all : List Text) (told : Told) (m : Merge) : Type 0 where
  pub at : (f : Text) → Merged all (lookup (bytes_eq f) told) (is_one_of (taken_keys m) f) f
      (vertex_at m.all.items f)

-- only what is merged may have changed
pub record IsSameMerge (old new : Merge) : Type 0 where
  pub keys : new.keys ≡ old.keys
  pub start : new.start ≡ old.start

-- the next key is not below the bound; without one none is left
abbrev pub IsAtBound : Option (Bor Text) → Merge → Type 0
IsAtBound o m = MatchOption o (length m.keys.now ≤ m.next)
    (λ b. m.next < length m.keys.now
    → is_below (nth_text (map (λ k. k.now) m.keys.now) m.next) b.now ≡ false)

-- what is told of `default` before the rest, if the rest doesn't begin with it
abbrev pub default_before : List Listing → Told
default_before [] = (codes "default", ([], plain_detail)) ∷ []
default_before (l ∷ ls) =
    if bytes_eq l.name.now (codes "default") then []
    else (codes "default", ([], plain_detail)) ∷ []
