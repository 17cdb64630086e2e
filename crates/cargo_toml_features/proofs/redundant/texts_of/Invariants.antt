use Rattle.std.proofs.Common.{◌≡◌, map, string_bytes, take}
use Rattle.cargo_toml_features.proofs.redundant.texts_of.Given as goal

abbrev pub invariant-loop-feature : goal.invariant-loop-feature
invariant-loop-feature l =
    map (λ t. t.now) l.texts.items ≡ map string_bytes (take l.feature-index l.features)
