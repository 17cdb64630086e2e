-- Worked examples with dependencies.
use Rattle.cargo_toml_features.proofs.Cited.{Enables, IsTrue, Text, arith, codes, common_steps, enables_two, false≢true, further, inl, itself, one, refl, small, ◌↔◌, ◌≡◌, ◌⊎◌}
use Rattle.cargo_toml_features.proofs.examples.a_small_table.Goals as goal

-- default = ["fast"], fast = ["log/std"], with an optional dependency log
small_next : (g y : Text) → (g ≡ codes "default") ⊎ (g ≡ codes "fast") → IsTrue (small.names g y) → (y ≡ codes "default") ⊎ (y ≡ codes "fast")
small_next v0 v1 v2 v3 = grind (arith, common_steps, one, false≢true)

small_reached : {y : Text} → Enables small (codes "default") y → (y ≡ codes "default") ⊎ (y ≡ codes "fast")
small_reached itself = inl refl
small_reached (further e n h) = small_next _ _ (small_reached e) n

small_enables : (x : Text) → Enables small (codes "default") x ↔ ((x ≡ codes "default") ⊎ (x ≡ codes "fast"))
small_enables = enables_two small (codes "default") (codes "fast") (λ y e. small_reached e) refl refl

pub returns-clause-recursive : goal.returns-clause-recursive
returns-clause-recursive c = small_enables
