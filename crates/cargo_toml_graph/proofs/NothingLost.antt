-- What a kept feature enables recursively loses no kept feature and no dependency.
use Rattle.std.proofs.Common.{◌≡◌, Bool, false, IsTrue, IsFalse, Option, Some, refl, sym, subst, inl, inr, ◌∙◌, rules}
use Rattle.std.proofs.lemmas.Bool.{false≢true, cases_Bool}
use Rattle.cargo_toml_graph.specs.{Action.Text, Action.Action, Action.IsJoin, Reach.Reaches, Reach.Gathers, Reach.Reaches.edge, Graph.Table, Graph.Edge, Graph.Resolution, Graph.IsKept}
use Rattle.cargo_toml_graph.specs.{Graph.IsResolved, Graph.IsUnremoved, Recursive.Enables, Recursive.EnablesDependency, Recursive.Enables.itself, Recursive.Enables.further}
use Rattle.cargo_toml_graph.proofs.Texts.{decided_text}
use Rattle.cargo_toml_graph.proofs.OneRemoval as removal

module _ (t : Table) (removed : Text → Bool) (full m : Resolution) (u : IsUnremoved t full) (h : IsResolved t (λ v. IsTrue (removed v)) m) where
  abbrev R : Text → Type 0
  R v = IsTrue (removed v)

  is_kept : (v : Text) → removed v ≡ false → IsTrue (t.has v) → IsKept t R v
  is_kept v e there = (there, λ s. false≢true (sym e ∙ s))

  -- nothing is lost: each feature that was enabled is gathered by a kept one that still is
  abbrev StillUnder : Text → Text → Type 0
  StillUnder f b = (c : Text) × IsKept t R c × Enables m.table f c × Gathers (Edge t) R c b

  still_under : {f b : Text} → IsKept t R f → Enables full.table f b → StillUnder f b
  still_under {f} k itself = (f, k, itself, inl refl)
  still_under {f} k (further {g} {x} e n there') =
      let w : StillUnder f g = still_under k e in
      let there : IsTrue (t.has x) = subst IsTrue (u.has x) there' in
      let named : IsTrue (t.names g x) = subst IsTrue (u.names g x) n in
      elim (cases_Bool (removed x)) [
        | inr stays ↦
            let kx = is_kept x stays there in
            (x, kx, further w.2 ((h.names w.0 x w.1).1 ((g, w.3, named), kx.1)) ((h.kept x).1 kx), inl refl)
        | inl gone ↦ (
          w.0,
          w.1,
          w.2,
          elim (w.3) [
            | inl i ↦ inr (gone, edge (record { source = w.1.0; target = there; apart = λ j. w.1.1 (subst R (sym j) gone); leads = inl (subst (λ v. IsTrue (t.names v x)) i named) }))
            | inr q ↦ elim (decided_text g x) [
              | inl i ↦ inr (gone, subst (λ v. Reaches (Edge t) R w.0 v) i q.1)
              | inr ne ↦ inr (gone, removal.further q.1 q.0 (record { source = removal.target q.1; target = there; apart = ne; leads = inl named }))
            ]
          ],
        )
      ]

  pub keeps_enabled : {f g : Text} → IsKept t (λ v. IsTrue (removed v)) f → IsKept t (λ v. IsTrue (removed v)) g → Enables full.table f g → Enables m.table f g
  keeps_enabled {f} {g} k k' e = search (rules, still_under)

  joined_plain : {P : Action → Type 0} (o : Option Action) → IsJoin P o → (a : Action) → P a
      → IsFalse a.is_conditional → (j : Action) × (o ≡ Some j) × IsFalse j.is_conditional
      × ((x : Text) → IsTrue (a.features x) → IsTrue (j.features x))
  joined_plain v0 v1 v2 v3 v4 = search (rules, false≢true)

  pub keeps_dependency : {f k g : Text} {a : Action} → IsKept t (λ v. IsTrue (removed v)) f
      → EnablesDependency full.table f k g a
      → (g' : Text) × (a' : Action) × EnablesDependency m.table f k g' a'
      × ((x : Text) → IsTrue (a.features x) → IsTrue (a'.features x))
  keeps_dependency {f} {k} {g} {a} kept e =
      let w : StillUnder f g = still_under kept e.0 in
      let j = joined_plain (m.table.action w.0 k) (h.action w.0 k w.1) a (g, w.3, sym (u.action g k) ∙ e.1) e.2 in
      (w.0, j.0, (w.2, j.1, j.2), j.3)
