-- What the texts of all lists say, one after another, and where each list stands among them.
use Rattle.std.specs.Prelude.{◌≡◌, ◌+◌, ◌≤◌, ℕ, Bool, false, if◌then◌else◌, List, take, drop}
use Rattle.std.specs.Prelude.{length, is_some}
use Rattle.std.specs.{List.flat_map, Option.option_map_or}
use Rattle.cargo_toml_features.specs.{ActionText.action_in, declared.said.ListItem.ListItem}
use Rattle.cargo_toml_graph.specs.Action.{Text, Item}
use Rattle.cargo_toml_graph.specs.Action.Item.{Name, On}
use Rattle.cargo_toml_graph.specs.{Admitted.Listed, Admitted.action_on}

-- what an item says
abbrev pub said_by : ListItem → Item
said_by i =
    if i.acts then On i.said.target.now (action_in i.said) else Name i.said.target.now

-- the texts of the lists of a table, one list after another
abbrev pub texts_in : Listed → List Text
texts_in listed = flat_map (λ e. e.1) listed

-- the item acts on k
abbrev pub acts_on : Text → Item → Bool
acts_on k i = is_some (action_on k i)

-- its action on k is dep-only
abbrev pub reserves : Text → Item → Bool
reserves k i = option_map_or (λ a. a.is_dep_only) (action_on k i) false

-- from this place on there stand these texts
pub record StandAt (all : List Text) (place : ℕ) (texts : List Text) : Type 0 where
  pub there : take (length texts) (drop place all) ≡ texts
  pub within : place + length texts ≤ length all
