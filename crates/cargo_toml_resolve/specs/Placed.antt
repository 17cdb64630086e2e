-- Features in their places once removed ones are taken out, and what is hashed of them.
use Rattle.std.specs.Prelude.{◌≡◌, ◌↔◌, ◌<◌, ℕ, Bool, true, false, List, length, IsSome, IsTrue}
use Rattle.std.specs.Prelude.{Option, Some, bytes_eq, if◌then◌else◌, slice_get}
use Rattle.std.specs.{Borrow.Bor, BTreeSet.BTreeSet, HashMap.HashMap, Option.IsSomeAnd}
use Rattle.cargo_toml_graph.specs.{Action.Text, Admitted.is_below, Graph.Table}
use Rattle.cargo_toml_graph.specs.Redirects.{RedirectsTo}
use Rattle.cargo_toml_features.specs.{Places.nth_text, declared.features.Feature.Feature}
use Rattle.cargo_toml_features.specs.Views.{value_at}
use Rattle.cargo_toml_resolve.specs.{NumberedTables.HasNumber, Numbers.IsWanted, Numbers.Leads}
use Rattle.cargo_toml_resolve.specs.{Numbers.row_items, declared.graph.Graph.Graph}
use Rattle.cargo_toml_resolve.specs.{declared.graph.Walked.Walked, KeptFeatures.ArePassedAt}
use Rattle.cargo_toml_resolve.specs.KeptFeatures.{IsKeptFeature, StandFor, own_bins}
use Rattle.cargo_toml_resolve.specs.{Holding.HasTextsOf, Parts.AreAlikeIn, Parts.place_deeds}
use Rattle.cargo_toml_resolve.specs.{Parts.said_of, Texts.texts_now}

-- the features vs make the table t, and the graph stands for it
abbrev pub Shows : Graph → Table → (Text → Bool) → List Feature → Type 0
Shows g t removed vs =
    StandFor t removed vs (texts_now g.texts.items) g.edges g.names g.flags.items

-- the features of the graph g in their places, and what the walks over it found
pub record ArePlaced (g : Graph) (old new : List Feature) (w : Walked) : Type 0 where
  -- the texts and the flags are the graph's, and each feature has a redirect
  pub texts : w.texts ≡ g.texts
  pub flags : w.flags ≡ g.flags
  pub count : length w.redirects ≡ length old
  -- each feature stays in its place, with its name and its marks
  pub same : AreAlikeIn said_of old new
  -- a kept one holds what is kept of it, and the binaries that are passed on to it
  pub kept : (t : Table) (removed : Text → Bool) → Shows g t removed old
      → (i : ℕ) (u : Feature) → IsWanted w.flags.items false i → slice_get new i ≡ Some u
      → IsKeptFeature t (λ f. IsTrue (removed f)) (nth_text (texts_now w.texts.items) i) u
  pub bins : (t : Table) (removed : Text → Bool) → Shows g t removed old
      → ArePassedAt t removed (own_bins old) (texts_now w.texts.items) w.flags.items new
  -- a removed one keeps its names, and they are its redirect where that isn't marked as moved
  pub left : (r : ℕ) → IsWanted w.flags.items true r → place_deeds new r ≡ place_deeds old r
  pub stays : (r : ℕ) → IsWanted w.moved.items false r
      → row_items w.redirects r ≡ row_items g.names r
  -- the redirect of a removed one has what stands for it
  pub redirects : (t : Table) (removed : Text → Bool) → Shows g t removed old
      → (r : ℕ) (x : Text) → r < length g.edges → IsWanted w.flags.items true r
      → HasNumber (texts_now w.texts.items) (length (texts_now w.texts.items))
      (Leads w.redirects r) x
      ↔ RedirectsTo t (λ f. IsTrue (removed f)) (λ a b. IsTrue (is_below a b))
      (nth_text (texts_now w.texts.items) r) x

-- the map has under its name what Is says of each feature of vs in a place below n of which Here
-- holds, and it has nothing else
pub record HasThose {V S : Type 0} (vs : List Feature) (Here : ℕ → Type 0)
    (Is : ℕ → Feature → V → Type 0) (n : ℕ) (m : HashMap (Bor Text) V S) : Type 0 where
  pub there : (i : ℕ) (v : Feature) → i < n → slice_get vs i ≡ Some v → Here i
      → IsSomeAnd (value_at m v.key.now) (Is i v)
  pub only : (f : Text) → IsSome (value_at m f)
      → (i : ℕ) × (v : Feature) × (slice_get vs i ≡ Some v) × Here i × (v.key.now ≡ f)

-- the kept features, and the texts of what stands for removed ones, under their names
pub record AreHashed {S : Type 0} (vs : List Feature) (w : Walked) (n : ℕ)
    (features : HashMap (Bor Text) Feature S)
    (hidden : HashMap (Bor Text) (BTreeSet (Bor Text)) S) : Type 0 where
  pub kept : HasThose vs (IsWanted w.flags.items false) (λ i v u. u ≡ v) n features
  pub redirects : HasThose vs (IsWanted w.flags.items true)
      (λ i v s. HasTextsOf (texts_now w.texts.items) (row_items w.redirects i) s) n hidden

-- a set with the texts of what stands for r is put under the name; what else the map has stays
abbrev pub PutsRedirect : Walked → ℕ → Text → (Text → Option (BTreeSet (Bor Text)))
    → (Text → Option (BTreeSet (Bor Text))) → Type 0
PutsRedirect w r name old new =
    (s : BTreeSet (Bor Text)) × HasTextsOf (texts_now w.texts.items) (row_items w.redirects r) s
    × ((k : Text) → new k ≡ (if bytes_eq k name then Some s else old k))
