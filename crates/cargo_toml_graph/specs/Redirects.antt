-- What stands for a removed feature.
use Rattle.cargo_toml_graph.specs.Action.{Text}
use Rattle.cargo_toml_graph.specs.Graph.{Table, KeepsName}

-- r's names, and those of the removed features below r that it reaches through such, except the
-- removed features below r
abbrev pub RedirectsTo : Table → (Text → Type 0) → (Text → Text → Type 0) → Text → Text → Type 0
RedirectsTo t Removed Below r x = KeepsName t (λ s. Removed s × Below s r) r x
