use Rattle.cargo_toml_features.proofs.Cited.{Text, bytes_eq, list_any, map, set_has, take, ◌≡◌}
use Rattle.cargo_toml_features.proofs.sets.inserted.Given as goal

abbrev pub invariant-loop-text : goal.invariant-loop-text
invariant-loop-text l = (x : Text) → set_has l.set x ≡ list_any (bytes_eq x) (map (λ t. t.now) (take l.text-index l.texts))
