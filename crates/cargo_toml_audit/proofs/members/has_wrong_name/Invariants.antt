use Rattle.cargo_toml_audit.proofs.Cited.{drop, has_wrong_name, is_wrong_name, list_any, map, ◌≡◌}
use Rattle.cargo_toml_audit.proofs.members.has_wrong_name.Given as goal

abbrev pub invariant-loop-name : goal.invariant-loop-name
invariant-loop-name l = list_any is_wrong_name (map (λ t. t.now) (drop l.name-index l.name-items)) ≡ has_wrong_name l.entry
