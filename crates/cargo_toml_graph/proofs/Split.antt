-- A path through S and r splits at r.
use Rattle.std.proofs.Common.{◌⊎◌, ◌↔◌, refl, inl, inr, rules}
use Rattle.cargo_toml_graph.specs.{Reach.With, Reach.Reaches, Reach.Gathers, Reach.GathersLabel, Reach.Reaches.edge, Reach.Reaches.through}

module _ {K : Type 0} (Edge : K → K → Type 0) (S : K → Type 0) (r : K) where
  pub widen : {a b : K} → Reaches Edge S a b → Reaches Edge (With S r) a b
  widen (edge e) = edge e
  widen (through e s p) = through e (inl s) (widen p)

  pub joined : {a b : K} → Reaches Edge S a r → Reaches Edge S r b → Reaches Edge (With S r) a b
  joined (edge e) q = through e (inr refl) (widen q)
  joined (through e s p) q = through e (inl s) (joined p q)

  abbrev pub Splits : K → K → Type 0
  Splits a b = Reaches Edge S a b ⊎ (Reaches Edge S a r × Reaches Edge S r b)

  pub split : {a b : K} → Reaches Edge (With S r) a b → Splits a b
  split (edge e) = inl (edge e)
  split {b = c} (through {a} {b} e s p) = search (rules, split p, through, edge)

  -- B(f) over S and r: B(f) over S, and where f reaches r through S, B(r) over S
  pub gathers_split : (f b : K) → Gathers Edge (With S r) f b → Gathers Edge S f b ⊎ (Reaches Edge S f r × Gathers Edge S r b)
  gathers_split v0 v1 v2 = search (rules, split)

  pub gathers_joined : (f b : K) → Gathers Edge S f b ⊎ (Reaches Edge S f r × Gathers Edge S r b) → Gathers Edge (With S r) f b
  gathers_joined v0 v1 v2 = search (rules, widen, joined)

  module _ {X : Type 0} (Has : K → X → Type 0) where
    pub label_split : (f : K) (x : X) → GathersLabel Edge (With S r) Has f x ↔ (GathersLabel Edge S Has f x ⊎ (Reaches Edge S f r × GathersLabel Edge S Has r x))
    label_split f x = search (rules, gathers_split, gathers_joined)
