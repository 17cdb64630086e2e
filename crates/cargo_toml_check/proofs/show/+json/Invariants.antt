use Rattle.cargo_toml_check.proofs.Cited.{json_members, json_of, json_view, map, members_view, take, view, with_json, ◌≡◌}
use Rattle.cargo_toml_check.proofs.show.+json.Given as goal

abbrev pub invariant-array_of-items : goal.invariant-array_of-items
invariant-array_of-items l =
    map json_view l.items.items ≡ map (λ v. json_of (view v)) (take l.item-index l.list.items)

abbrev pub invariant-object_of-members : goal.invariant-object_of-members
invariant-object_of-members l = record {
  next : (goal.iterator-object_of-members).can_next l.key-iterator;
  end : (goal.iterator-object_of-members).is_finite l.key-iterator;
  put :
      with_json (members_view l.key-iterator) (json_members l.members.entries)
      ≡ with_json (members_view l.tree.entries) (json_members l.initial.members.entries);
}
