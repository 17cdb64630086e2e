-- A map of a resolution with nothing removed has what the table has, and enables what it enables.
use Rattle.cargo_toml_features.proofs.Cited.{Bor, Edge, Enables, Feature, Gathers, HashMap, IsResolved, IsTrue, Table, Text, arith, common_steps, further, inl, itself, refl, resolution_of, subst, table_in, ◌≡◌}

-- what a feature of a table enables is one of its features
pub enables_has : {t : Table} {f g : Text} → IsTrue (t.has f) → Enables t f g → IsTrue (t.has g)
enables_has v0 v1 = grind (arith, common_steps)

module _ {S : Type 0} (m : HashMap (Bor Text) Feature S) (t : Table) (Removed : Text → Type 0)
    (none : (f : Text) → ¬ Removed f) (resolved : IsResolved t Removed (resolution_of m)) where
  pub there : (f : Text) → IsTrue ((table_in m).has f) → IsTrue (t.has f)
  there f h = ((resolved.kept f).0 h).0

  pub held : (f : Text) → IsTrue (t.has f) → IsTrue ((table_in m).has f)
  held f h = (resolved.kept f).1 (h, none f)

  own : (f b : Text) → Gathers (Edge t) Removed f b → b ≡ f
  own v0 v1 v2 = grind (arith, common_steps)

  -- what the map names is named in the table, and the other way round
  pub named : (f x : Text) → IsTrue (t.has f) → IsTrue ((table_in m).names f x)
      → IsTrue (t.names f x)
  named f x h n =
      let k = (resolved.names f x (h, none f)).0 n in
      subst (λ b. IsTrue (t.names b x)) (own f k.0.0 k.0.1) k.0.2

  pub names : (f x : Text) → IsTrue (t.has f) → IsTrue (t.names f x)
      → IsTrue ((table_in m).names f x)
  names f x h n = (resolved.names f x (h, none f)).1 ((f, inl refl, n), none x)

  pub enables_in : {f x : Text} → IsTrue (t.has f) → Enables (table_in m) f x → Enables t f x
  enables_in h itself = itself
  enables_in h (further e n k) =
      let r = enables_in h e in further r (named _ _ (enables_has h r) n) (there _ k)

  pub enables_out : {f x : Text} → IsTrue (t.has f) → Enables t f x → Enables (table_in m) f x
  enables_out h itself = itself
  enables_out h (further e n k) =
      further (enables_out h e) (names _ _ (enables_has h e) n) (held _ k)
