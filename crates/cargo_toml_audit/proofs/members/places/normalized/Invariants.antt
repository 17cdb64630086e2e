use Rattle.cargo_toml_audit.proofs.Cited.{[], drop, fold, map, one_further, pieces, ◌≡◌}
use Rattle.cargo_toml_audit.proofs.members.places.normalized.Given as goal

abbrev pub invariant-loop-name : goal.invariant-loop-name
invariant-loop-name l =
    fold (one_further l.path l.keeps_up) (map (λ t. t.now) l.names.items) (map (λ t. t.now) (drop l.name-index l.name-items))
    ≡ fold (one_further l.path l.keeps_up) [] (pieces l.path)
