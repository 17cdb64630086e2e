-- What an action text says, from its parts.
use Rattle.std.specs.Prelude.{false, if◌then◌else◌, ◌||◌, is_some, bytes_eq}
use Rattle.std.specs.Option.{option_map_or}
use Rattle.cargo_toml_features.specs.declared.action.ActionText.{ActionText}
use Rattle.cargo_toml_graph.specs.{Action.Action, Action.Item, Action.Item.Name, Action.Item.On}

abbrev pub action_in : ActionText → Action
action_in t = record {
  is_conditional = t.is_conditional;
  is_dep_only = t.is_dep_only;
  features = λ x. option_map_or (λ f. bytes_eq x f.now) t.dep_feature false;
}

-- an action on a dependency, or else a feature's name
abbrev pub item_in : ActionText → Item
item_in t =
    if t.is_dep_only || is_some t.dep_feature then On t.target.now (action_in t)
    else Name t.target.now
