use Rattle.cargo_toml_tools.proofs.Cited.{◌≡◌, filter, is_kept, map, set_has, string_bytes, take}
use Rattle.cargo_toml_tools.proofs.index.features.kept.Given as goal

abbrev pub invariant-loop-text : goal.invariant-loop-text
invariant-loop-text l =
    map (λ t. t.now) l.all.items ≡ filter (is_kept (set_has l.keys)) (map string_bytes (take l.text-index l.texts))
