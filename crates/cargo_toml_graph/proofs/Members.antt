-- Sets with the same members give the same paths.
use Rattle.std.proofs.Common.{◌≡◌, IsTrue, Some, inl, inr}
use Rattle.cargo_toml_graph.specs.{Action.Text, Reach.Reaches, Reach.GathersLabel, Reach.Reaches.edge, Reach.Reaches.through, Graph.Table, Graph.Resolution, Graph.IsKept, Graph.IsResolved}
use Rattle.cargo_toml_graph.proofs.Joins.{join_alike}

pub reaches_within : {K : Type 0} {E : K → K → Type 0} (S S' : K → Type 0) → ((v : K) → S v → S' v) → {a b : K} → Reaches E S a b → Reaches E S' a b
reaches_within S S' sub (edge e) = edge e
reaches_within S S' sub (through e s p) = through e (sub _ s) (reaches_within S S' sub p)

pub label_within : {K X : Type 0} {E : K → K → Type 0} (Has : K → X → Type 0) (S S' : K → Type 0) → ((v : K) → S v → S' v) → (f : K) (x : X) → GathersLabel E S Has f x → GathersLabel E S' Has f x
label_within Has S S' sub f x l = (l.0, elim (l.1) [ inl i ↦ inl i | inr g ↦ inr (sub _ g.0, reaches_within S S' sub g.1) ], l.2)

-- S and S' have the same members
module _ (t : Table) (S S' : Text → Type 0) (into : (v : Text) → S v → S' v) (back : (v : Text) → S' v → S v) where
  pub resolved_alike : (m : Resolution) → IsResolved t S m → IsResolved t S' m
  resolved_alike m h = record {
    kept = λ f. (λ y. let k = (h.kept f).0 y in (k.0, λ s. k.1 (back f s)), λ k. (h.kept f).1 (old k));
    names = λ f x k. (
      λ y. let n = (h.names f x (old k)).0 y in (label_within (λ b z. IsTrue (t.names b z)) S S' into f x n.0, λ s. n.1 (back x s)),
      λ n. (h.names f x (old k)).1 (label_within (λ b z. IsTrue (t.names b z)) S' S back f x n.0, λ s. n.1 (into x s)),
    );
    enabled_by = λ f e k. (
      λ y. let n = (h.enabled_by f e (old k)).0 y in ((n.0.0, λ s. n.0.1 (back e s)), reaches_within S S' into n.1),
      λ n. (h.enabled_by f e (old k)).1 (old n.0, reaches_within S' S back n.1),
    );
    action = λ f d k. join_alike (λ a. (label_within (λ b z. t.action b d ≡ Some z) S S' into f a, label_within (λ b z. t.action b d ≡ Some z) S' S back f a)) _ (h.action f d (old k));
  }
    where
      old : {f : Text} → IsKept t S' f → IsKept t S f
      old {f} k = (k.0, λ s. k.1 (into f s))
