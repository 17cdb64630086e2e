use Rattle.cargo_toml_check.proofs.Cited.{blamed_items, blamed_members, drop, items_view, map, members_view, part_of, path_of, ◌++◌, ◌≡◌}
use Rattle.cargo_toml_check.proofs.search.+blame.Given as goal

abbrev pub invariant-blame_items-items : goal.invariant-blame_items-items
invariant-blame_items-items l = record {
  stays : l.path.items ≡ l.initial.path.items;
  found :
      map path_of l.found.items ++ blamed_items (map part_of l.initial.path.items) l.index (items_view (drop l.index l.array.items))
      ≡ map path_of l.initial.found.items ++ blamed_items (map part_of l.initial.path.items) 0 (items_view l.array.items);
}

abbrev pub invariant-blame_members-members : goal.invariant-blame_members-members
invariant-blame_members-members l = record {
  next : (goal.iterator-blame_members-members).can_next l.key-iterator;
  end : (goal.iterator-blame_members-members).is_finite l.key-iterator;
  stays : l.path.items ≡ l.initial.path.items;
  found :
      map path_of l.found.items ++ blamed_members (map part_of l.initial.path.items) (members_view l.key-iterator)
      ≡ map path_of l.initial.found.items ++ blamed_members (map part_of l.initial.path.items) (members_view l.table.entries);
}
