-- Rows that stand in one list.
use Rattle.std.specs.Prelude.{◌≤◌, ℕ, List, [], ◌∷◌, map}
use Rattle.std.specs.List.{slice_range}
use Rattle.cargo_toml_resolve.specs.declared.span.Span.{Span}

-- the rows that stand there
abbrev pub rows_in : List ℕ → List Span → List (List ℕ)
rows_in nodes spans = map (λ s. slice_range nodes s.start s.end) spans

-- each span is in a list of this length
abbrev pub AreInside : ℕ → List Span → Type 0
AreInside n [] = Unit {0}
AreInside n (s ∷ ss) = ((s.start ≤ s.end) × (s.end ≤ n)) × AreInside n ss
