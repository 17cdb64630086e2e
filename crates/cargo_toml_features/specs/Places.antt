-- Where texts stand in a list.
use Rattle.std.specs.{Prelude.ℕ, Prelude.List, Prelude.[], List.slice_index_or}
use Rattle.cargo_toml_graph.specs.Action.{Text}

-- the text of the place i, empty past the end
abbrev pub nth_text : List Text → ℕ → Text
nth_text texts i = slice_index_or texts i []
