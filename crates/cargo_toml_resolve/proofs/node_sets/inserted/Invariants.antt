use Rattle.cargo_toml_resolve.proofs.Cited.{Text, bytes_eq, list_any, map, nth_text, set_has, take, texts_now, ◌≡◌}
use Rattle.cargo_toml_resolve.proofs.node_sets.inserted.Given as goal

abbrev pub invariant-loop-x : goal.invariant-loop-x
invariant-loop-x l = (t : Text) → set_has l.set t ≡ list_any (bytes_eq t) (map (nth_text (texts_now l.texts)) (take l.x-index l.nodes))
