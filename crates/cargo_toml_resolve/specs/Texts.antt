-- Texts that are borrowed.
use Rattle.std.specs.{Prelude.List, Prelude.map, Borrow.Bor}
use Rattle.cargo_toml_graph.specs.Action.{Text}

abbrev pub texts_now : List (Bor Text) → List Text
texts_now ks = map (λ k. k.now) ks
