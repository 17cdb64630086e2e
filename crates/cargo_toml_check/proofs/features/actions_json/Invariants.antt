use Rattle.cargo_toml_check.proofs.Cited.{action_json, json_members, map, with_rows, ◌≡◌}
use Rattle.cargo_toml_check.proofs.features.actions_json.Given as goal

abbrev pub invariant-loop-key : goal.invariant-loop-key
invariant-loop-key l =
    with_rows (map (λ e. (e.0.now, action_json e.1)) l.key-iterator) (json_members l.members.entries)
    ≡ with_rows (map (λ e. (e.0.now, action_json e.1)) l.initial.key-iterator) (json_members l.initial.members.entries)
