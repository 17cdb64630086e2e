-- Features that are made of vertices and of what their lists say.
use Rattle.std.specs.Prelude.{◌≡◌, ◌≤◌, ℕ, false, ◌∷◌, [], if◌then◌else◌, List, map, fold}
use Rattle.std.specs.Prelude.{Option, Some, None}
use Rattle.std.specs.Prelude.{bytes_eq}
use Rattle.std.specs.{List.list_any, List.slice_range}
use Rattle.cargo_toml_features.specs.{declared.said.ListItem.ListItem, Said.said_by}
use Rattle.cargo_toml_features.specs.declared.features.Feature.{Feature}
use Rattle.cargo_toml_features.specs.declared.vertices.Vertex.{Vertex}
use Rattle.cargo_toml_features.specs.Marks.{detail_in, marked, marks_of}
use Rattle.cargo_toml_features.specs.Recorded.{Entry, first_target, without_redundant}
use Rattle.cargo_toml_features.specs.{Resolved.plain_action, Views.action_at, Views.set_has}
use Rattle.cargo_toml_graph.specs.Action.{Text, Action, Item, join_option}
use Rattle.cargo_toml_graph.specs.Action.Item.{Name, On}
use Rattle.cargo_toml_graph.specs.Admitted.{action_on, item_names}

-- the item without what its dependency has anyway
abbrev pub thinned : (Text → List Entry) → Item → Item
thinned entries (Name x) = Name x
thinned entries (On k a) = On k (without_redundant (first_target (entries k)) a)

-- the actions of a list on k, joined to one
abbrev pub joined_from : Option Action → List Item → Text → Option Action
joined_from o items k = fold (λ o i. join_option o (action_on k i)) o items

-- an implied feature acts plainly on its own key
abbrev pub own_action : Vertex → Text → Option Action
own_action v k =
    if v.is_listed then None else (if bytes_eq k v.name.now then Some plain_action else None)

-- the items of the vertex stand among so many
pub record HasSpanWithin (count : ℕ) (v : Vertex) : Type 0 where
  pub forward : v.items.start ≤ v.items.end
  pub within : v.items.end ≤ count

-- the feature of the vertex, of which no item is known yet
pub record IsTold (v : Vertex) (w : Feature) : Type 0 where
  pub key : w.key.now ≡ v.name.now
  pub marks : marks_of w ≡ marked v.is_listed (detail_in v.detail)
  pub enabled_by : w.enabled_by.keys ≡ []
  pub bins : w.required_by_bins.items ≡ []
  pub names : (x : Text) → set_has w.enables_features x ≡ false
  pub actions : (k : Text) → action_at w.enables_deps k ≡ None

-- the feature of the vertex, whose list says these items. Neither enablers nor binaries are known
-- yet
pub record IsMadeOf (v : Vertex) (items : List Item) (w : Feature) : Type 0 where
  pub key : w.key.now ≡ v.name.now
  pub marks : marks_of w ≡ marked v.is_listed (detail_in v.detail)
  pub enabled_by : w.enabled_by.keys ≡ []
  pub bins : w.required_by_bins.items ≡ []
  pub names : (x : Text) → set_has w.enables_features x ≡ list_any (item_names x) items
  pub action : (k : Text) → action_at w.enables_deps k ≡ joined_from (own_action v k) items k

-- what the list of the vertex says, by the items of all lists
abbrev pub items_of : List ListItem → Vertex → List Item
items_of items v = map said_by (slice_range items v.items.start v.items.end)

-- one feature for each vertex
abbrev pub AreMadeOf : List ListItem → List Vertex → List Feature → Type 0
AreMadeOf items [] [] = Unit {0}
AreMadeOf items [] (w ∷ ws) = ⊥
AreMadeOf items (v ∷ vs) [] = ⊥
AreMadeOf items (v ∷ vs) (w ∷ ws) = IsMadeOf v (items_of items v) w × AreMadeOf items vs ws
