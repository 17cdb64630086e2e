-- Between kept features, what enables what transitively is as it was before anything was removed.
use Rattle.std.proofs.Common.{◌≡◌, ◌⊎◌, Bool, false, IsTrue, refl, sym, subst, inl, ◌∙◌, rules}
use Rattle.std.proofs.lemmas.Bool.{false≢true, false_from_ne_true}
use Rattle.cargo_toml_graph.specs.{Action.Text, Reach.Reaches, Reach.Reaches.edge, Reach.Reaches.through, Graph.Table, Graph.Edge, Graph.Resolution, Graph.IsKept, Graph.IsResolved, Graph.IsUnremoved}
use Rattle.cargo_toml_graph.specs.{Graph.EnablesAtLast, Kept.NoneIsLeft}

pub chained : {K : Type 0} {E : K → K → Type 0} (S : K → Type 0) {a b c : K} → Reaches E S a b → S b → Reaches E S b c → Reaches E S a c
chained S (edge e) s q = through e s q
chained S (through e s p) s' q = through e s (chained S p s' q)

module _ (t : Table) (removed : Text → Bool) (full m : Resolution) (u : IsUnremoved t full) (h : IsResolved t (λ v. IsTrue (removed v)) m) where
  abbrev R : Text → Type 0
  R v = IsTrue (removed v)

  is_kept : (v : Text) → removed v ≡ false → IsTrue (t.has v) → IsKept t R v
  is_kept v e there = (there, λ s. false≢true (sym e ∙ s))

  -- closure, one way: a path through removed features is a path
  forget : {a b : Text} → IsKept t R b → Reaches (Edge t) R a b → EnablesAtLast full a b
  forget k (edge e) = edge ((u.enabled_by _ _).1 e)
  forget k (through e s p) = through ((u.enabled_by _ _).1 e) (subst IsTrue (sym (u.has _)) e.target) (forget k p)

  pub at_last_before : {a b : Text} → IsKept t (λ v. IsTrue (removed v)) b → EnablesAtLast m a b → EnablesAtLast full a b
  at_last_before k (edge e) = forget k ((h.enabled_by _ _ k).0 e).1
  at_last_before k (through e s p) =
      let k' = (h.kept _).0 s in
      chained _ (forget k' ((h.enabled_by _ _ k').0 e).1) (subst IsTrue (sym (u.has _)) k'.0) (at_last_before k p)

  -- the first kept feature on a path, and the rest of it
  abbrev FirstKept : Text → Text → Type 0
  FirstKept a b = (c : Text) × IsKept t R c × Reaches (Edge t) R a c × ((c ≡ b) ⊎ EnablesAtLast m c b)

  first_kept : {a b : Text} → IsKept t R b → EnablesAtLast full a b → FirstKept a b
  first_kept {b = b} k (edge e) = (b, k, edge ((u.enabled_by _ _).0 e), inl refl)
  first_kept {b = z} k (through {a} {b} {c} e s p) = search (rules, is_kept, first_kept k p, through, edge)

  pub at_last_after : {a b : Text} → IsKept t (λ v. IsTrue (removed v)) a → IsKept t (λ v. IsTrue (removed v)) b → EnablesAtLast full a b → EnablesAtLast m a b
  at_last_after v0 v1 v2 = search (rules, first_kept, edge, through)

-- no removed name is left
pub none_left : (t : Table) (removed : Text → Bool) (m : Resolution) → IsResolved t (λ v. IsTrue (removed v)) m → NoneIsLeft (λ v. IsTrue (removed v)) m
none_left t removed m h = search (rules, false_from_ne_true)
