use Rattle.{std.proofs.Common.◌≡◌, std.proofs.Common.take, cargo_toml_features.specs.InOrder.names_of, cargo_toml_resolve.specs.Texts.texts_now}
use Rattle.cargo_toml_resolve.proofs.numbering.keys_of.Given as goal

abbrev pub invariant-loop-feature : goal.invariant-loop-feature
invariant-loop-feature l = texts_now l.keys.items ≡ names_of (take l.feature-index l.features)
