-- Which binaries require a feature themselves.
use Rattle.std.specs.Prelude.{List, map, filter, bytes_eq}
use Rattle.cargo_toml_features.specs.declared.required.Requirement.{Requirement}
use Rattle.cargo_toml_graph.specs.Action.{Text}

-- a binary's requirement: the feature, and the binary's name
abbrev pub bin_requirement : Requirement → Text × Text
bin_requirement r = (r.feature.now, r.bin.now)

-- the binaries that require f, in the order of the requirements
abbrev pub own_of : List (Text × Text) → Text → List Text
own_of requirements f = map (λ r. r.1) (filter (λ r. bytes_eq f r.0) requirements)
