use Rattle.std.{proofs.Common.◌≡◌, proofs.Common.map, proofs.Common.take, specs.List.flat_map}
use Rattle.cargo_toml_features.specs.OwnBins.{bin_requirement}
use Rattle.cargo_toml_parts.specs.Products.{product_meaning}
use Rattle.cargo_toml_resolver.specs.Parsed.{requirements_by}
use Rattle.cargo_toml_resolver.proofs.requirements.requirements_of.Given as goal

abbrev pub invariant-loop-bin : goal.invariant-loop-bin
invariant-loop-bin l = map bin_requirement l.requirements.items ≡ flat_map (requirements_by l.package_name) (map product_meaning (take l.bin-index l.bins))
