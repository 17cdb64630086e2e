-- The names of features without `default`.
use Rattle.std.specs.Prelude.{List, filter, not, bytes_eq, codes}
use Rattle.std.specs.Borrow.{Bor}
use Rattle.cargo_toml_graph.specs.Action.{Text}

-- the names, in their order, except `default`
abbrev pub without_default : List (Bor Text) → List (Bor Text)
without_default names = filter (λ k. not (bytes_eq k.now (codes "default"))) names
