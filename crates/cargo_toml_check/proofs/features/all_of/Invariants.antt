use Rattle.cargo_toml_check.proofs.Cited.{flat_map, json_members, row_at, with_rows, ◌≡◌}
use Rattle.cargo_toml_check.proofs.features.all_of.Given as goal

abbrev pub invariant-loop-name : goal.invariant-loop-name
invariant-loop-name g l =
    with_rows (flat_map (λ k. row_at g.X.ToJson.json l.found k.now) l.name-iterator) (json_members l.members.entries)
    ≡ with_rows (flat_map (λ k. row_at g.X.ToJson.json l.found k.now) l.initial.name-iterator) (json_members l.initial.members.entries)
