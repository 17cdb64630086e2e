-- Which feature turns on which.
use Rattle.std.specs.Prelude.{Bool, ◌&&◌, not, None, bytes_eq}
use Rattle.std.specs.List.{list_any}
use Rattle.cargo_toml.specs.{Action.Item.Name, Admitted.Listed, Manifests.ManifestMeaning}
use Rattle.cargo_toml.specs.{Action.Item, Action.Item.On, Action.Text, Admitted.items, Graph.Table}
use Rattle.cargo_toml_lint.specs.Known.{all_names}

-- an item names x, or acts on the optional dependency x, neither conditionally nor by `dep:`
abbrev pub turns_to : (Text → Bool) → Text → Item → Bool
turns_to optional x (Name y) = bytes_eq x y
turns_to optional x (On k a) =
    bytes_eq x k && (optional k && (not a.is_conditional && not a.is_dep_only))

-- some item of the list of f does so
abbrev pub turned : Listed → (Text → Bool) → Text → Text → Bool
turned listed optional f x = list_any (turns_to optional x) (items listed f)

-- these features, each with what some item of its list turns on. The table has no actions on
-- dependencies
abbrev pub turning_by : Listed → (Text → Bool) → (Text → Bool) → Table
turning_by listed optional has = record {
  has = has;
  names = turned listed optional;
  action = λ f k. None;
}

-- the same of a manifest. In this table `Enables` is what a feature turns on, by any number of
-- steps
abbrev pub turning : {M : Type 0} → ManifestMeaning M → (Text → Bool) → Table
turning m has = turning_by m.features (all_names m).optional has
