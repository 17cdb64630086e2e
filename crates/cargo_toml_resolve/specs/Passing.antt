-- The binaries that are passed on, by places.
use Rattle.std.specs.Prelude.{◌≡◌, ℕ, zero, suc, Bool, false, List, [], if◌then◌else◌, map, nat_eq}
use Rattle.std.specs.Prelude.{take, slice_get, ◌⊎◌, ◌<◌, length, Some}
use Rattle.std.specs.{List.list_any, List.slice_index_or, Option.option_map_or, Borrow.Bor}
use Rattle.std.specs.BTreeSet.{BTreeSet, btree_set_len}
use Rattle.cargo_toml_graph.specs.{Action.Text, Removal.put_each, Removal.lists_text}
use Rattle.cargo_toml_resolve.specs.{Numbers.row_items, Parts.AreAlikeIn, Parts.but_bins}
use Rattle.cargo_toml_features.specs.{declared.features.Feature.Feature, Views.set_has}

-- the binaries that require the feature in place i, none past the end
abbrev pub bins_of : List Feature → ℕ → List Text
bins_of vs i = option_map_or (λ v. map (λ b. b.now) v.required_by_bins.items) (slice_get vs i) []

-- the place r passes the first ten of its list on to each place in its row
abbrev pub passed_from : List (List ℕ) → ℕ → (ℕ → List Text) → ℕ → List Text
passed_from redirects r lists y =
    if list_any (nat_eq y) (row_items redirects r) then put_each (lists y) (take 10 (lists r))
    else lists y

-- the lists once the flagged places below n have passed theirs on, from the first to the last
abbrev pub passed_below : List (List ℕ) → List Bool → ℕ → (ℕ → List Text)
    → ℕ → List Text
passed_below redirects flags zero lists = lists
passed_below redirects flags (suc n) lists =
    if slice_index_or flags n false
    then passed_from redirects n (passed_below redirects flags n lists)
    else passed_below redirects flags n lists

-- what features hold beside their binaries stays
abbrev pub AreSameButBins : List Feature → List Feature → Type 0
AreSameButBins old new = AreAlikeIn but_bins old new

-- the binaries are put into the lists of the features in the named places, and nothing else changes
pub record Puts (Named : ℕ → Type 0) (bins : List Text) (old new : List Feature) : Type 0 where
  pub same : AreSameButBins old new
  pub lists : (y : ℕ) → y < length old → (Named y × (bins_of new y ≡ put_each (bins_of old y) bins))
      ⊎ ((¬ Named y) × (bins_of new y ≡ bins_of old y))

-- the set has the binaries of the list, and no other
abbrev pub Knows : BTreeSet (Bor Text) → List Text → Type 0
Knows known bins = (x : Text) → set_has known x ≡ lists_text bins x

-- or it has nothing yet
abbrev pub MayKnow : BTreeSet (Bor Text) → List Text → Type 0
MayKnow known bins = (btree_set_len known ≡ 0) ⊎ Knows known bins

-- in each place the set may know the binaries of the feature there
pub record AreKnown (known : List (BTreeSet (Bor Text))) (vs : List Feature) : Type 0 where
  pub len : length known ≡ length vs
  pub each : (y : ℕ) (s : BTreeSet (Bor Text)) → slice_get known y ≡ Some s
      → MayKnow s (bins_of vs y)
