use Rattle.{std.proofs.Common.◌≡◌, std.proofs.Common.map, std.proofs.Common.take, cargo_toml_features.specs.Places.nth_text, cargo_toml_resolve.specs.Texts.texts_now}
use Rattle.cargo_toml_resolve.proofs.node_sets.list_of.Given as goal

abbrev pub invariant-loop-x : goal.invariant-loop-x
invariant-loop-x l = texts_now l.list.items ≡ map (nth_text (texts_now l.texts)) (take l.x-index l.nodes)
