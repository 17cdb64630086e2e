use Rattle.std.proofs.Common.{◌≡◌, ◌++◌, map, string_bytes, take}
use Rattle.cargo_toml_features.specs.OwnBins.{bin_requirement}
use Rattle.cargo_toml_resolver.proofs.requirements.add_requirements.Given as goal

abbrev pub invariant-loop-feature : goal.invariant-loop-feature
invariant-loop-feature l =
    map bin_requirement l.requirements.items
    ≡ map bin_requirement l.initial.requirements.items ++ map (λ f. (f, l.name)) (map string_bytes (take l.feature-index l.bin.required_features.items))
