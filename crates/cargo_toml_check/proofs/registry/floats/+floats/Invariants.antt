use Rattle.std.proofs.Common.{◌≡◌, drop}
use Rattle.serde_json.specs.View.{items_view, members_view}
use Rattle.serde_json.specs.Written.{items_have_float, members_have_float}
use Rattle.cargo_toml_check.proofs.registry.floats.+floats.Given as goal

abbrev pub invariant-items_have_float-items : goal.invariant-items_have_float-items
invariant-items_have_float-items l = items_have_float (items_view (drop l.item-index l.item-items)) ≡ items_have_float (items_view l.item-items)

abbrev pub invariant-members_have_float-members : goal.invariant-members_have_float-members
invariant-members_have_float-members l =
    (goal.iterator-members_have_float-members).can_next l._key-iterator ×
    (goal.iterator-members_have_float-members).is_finite l._key-iterator ×
    (members_have_float (members_view l._key-iterator) ≡ members_have_float (members_view l.members.entries))
