use Rattle.cargo_toml_lint.proofs.Cited.{◌<◌, ◌↔◌, ◌≡◌, ◌⊎◌, [], AreLinks, Code, CountsBy, IsFound, name_at, None, Table, Text, ℕ}
use Rattle.cargo_toml_lint.proofs.linting.add_counting.Given as goal

abbrev pub invariant-loop-place : goal.invariant-loop-place
invariant-loop-place g l = (t : Table) → AreLinks t l.links → ((f k : Text) → t.action f k ≡ None)
    → (c : Code) (f x : Text) → IsFound l.found.items c f x ↔ (IsFound l.initial.found.items c f x
    ⊎ ((x ≡ []) × ((a : ℕ) × (a < l.place) × (name_at l.links a ≡ f)) × CountsBy l.features t c f))
