-- Taking one more feature out of a resolution with S removed leaves one with S and that feature removed.
use Rattle.std.proofs.Common.{◌≡◌, ◌≢◌, ◌↔◌, Bool, true, false, not, cond, ◌&&◌, ◌||◌, IsTrue, Some, bytes_eq, refl, sym, subst, inl, inr, ◌∙◌, rules}
use Rattle.std.proofs.lemmas.Bool.{false≢true, or_cases, or_left, or_right, and_parts, and_from}
use Rattle.cargo_toml_graph.specs.{Action.Text, Action.join_option, Action.IsJoin, Reach.With, Reach.Reaches, Reach.GathersLabel, Reach.Reaches.edge, Reach.Reaches.through, Graph.Table}
use Rattle.cargo_toml_graph.specs.{Graph.Edge, Graph.Resolution, Graph.IsKept, Graph.KeepsName, Graph.IsEnabledBy, Graph.Says, Graph.IsResolved, Removal.without_one}
use Rattle.cargo_toml_graph.proofs.{Texts.apart_false, Texts.apart_from, Split.widen, Split.joined, Split.split, Split.label_split, Joins.join_alike, Joins.join_halves}

-- the end of a path is there
pub target : {t : Table} {S : Text → Type 0} {a b : Text} → Reaches (Edge t) S a b → IsTrue (t.has b)
target (edge e) = e.target
target (through e s p) = target p

-- one more edge at the end of a path
pub further : {t : Table} {S : Text → Type 0} {a b c : Text} → Reaches (Edge t) S a b → S b → Edge t b c → Reaches (Edge t) S a c
further (edge e) s e' = through e s (edge e')
further (through e s p) s' e' = through e s (further p s' e')

module _ (t : Table) (S : Text → Type 0) (m : Resolution) (h : IsResolved t S m) (r : Text) (there : IsTrue (t.has r)) (new : ¬ S r) where
  kept_r : IsKept t S r
  kept_r = (there, new)

  -- the name of a kept feature that stands where r does: that feature is a parent of r
  parent_by_name : (f : Text) → IsKept t S f → f ≢ r → GathersLabel (Edge t) S (λ b y. IsTrue (t.names b y)) f r → Reaches (Edge t) S f r
  parent_by_name v0 v1 v2 v3 = search (rules, target, further, edge)

  reaches_r : (f : Text) → IsTrue (m.enabled_by r f) → IsKept t S f × Reaches (Edge t) S f r
  reaches_r f e = (h.enabled_by r f kept_r).0 e

  parent_true : (f : Text) → IsKept t S f → Reaches (Edge t) S f r → IsTrue (m.enabled_by r f)
  parent_true f k p = (h.enabled_by r f kept_r).1 (k, p)

  child_true : (f : Text) → IsKept t S f → Reaches (Edge t) S r f → IsTrue (m.enabled_by f r)
  child_true f k p = (h.enabled_by f r k).1 (kept_r, p)

  older : (f : Text) → IsKept t (With S r) f → IsKept t S f × (f ≢ r)
  older f k = ((k.0, λ s. k.1 (inl s)), λ i. k.1 (inr i))

  newer : (f : Text) → IsKept t S f → f ≢ r → IsKept t (With S r) f
  newer f k ne = (k.0, elim [ inl s ↦ k.1 s | inr i ↦ ne i ])

  has_step : (f : Text) → IsTrue ((without_one r m).table.has f) ↔ IsKept t (With S r) f
  has_step f = search (rules, and_parts, newer, apart_from, older, and_from, apart_false)

  names_step : (f x : Text) → IsKept t (With S r) f → IsTrue ((without_one r m).table.names f x) ↔ KeepsName t (With S r) f x
  names_step f x k' = go (m.enabled_by r f) refl
    where
      k : IsKept t S f
      k = (older f k').0

      go : (b : Bool) → m.enabled_by r f ≡ b → IsTrue (cond b ((m.table.names f x || m.table.names r x) && not (bytes_eq x r)) (m.table.names f x)) ↔ KeepsName t (With S r) f x
      go true e = (
        λ y. let p = and_parts (m.table.names f x || m.table.names r x) _ y in
            let ne = apart_from x r p.1 in
            elim (or_cases (m.table.names f x) _ p.0) [
              | inl y ↦ let n = (h.names f x k).0 y in ((label_split (Edge t) S r (λ b y. IsTrue (t.names b y)) f x).1 (inl n.0), elim [ inl s ↦ n.1 s | inr i ↦ ne i ])
              | inr y ↦ let n = (h.names r x kept_r).0 y in ((label_split (Edge t) S r (λ b y. IsTrue (t.names b y)) f x).1 (inr ((reaches_r f e).1, n.0)), elim [ inl s ↦ n.1 s | inr i ↦ ne i ])
            ],
        λ n. and_from _ _
            (elim ((label_split (Edge t) S r (λ b y. IsTrue (t.names b y)) f x).0 n.0) [
              | inl l ↦ or_left _ _ ((h.names f x k).1 (l, λ s. n.1 (inl s)))
              | inr pl ↦ or_right _ _ ((h.names r x kept_r).1 (pl.1, λ s. n.1 (inl s)))
            ])
            (apart_false x r (λ i. n.1 (inr i))),
      )
      go false e = (
        λ y. let n = (h.names f x k).0 y in (
          (label_split (Edge t) S r (λ b y. IsTrue (t.names b y)) f x).1 (inl n.0),
          elim [
            | inl s ↦ n.1 s
            | inr i ↦
                false≢true (sym e ∙ parent_true f k (parent_by_name f k (older f k').1 (subst (λ v. GathersLabel (Edge t) S (λ b y. IsTrue (t.names b y)) f v) i n.0)))
          ],
        ),
        λ n. elim ((label_split (Edge t) S r (λ b y. IsTrue (t.names b y)) f x).0 n.0) [
          | inl l ↦ (h.names f x k).1 (l, λ s. n.1 (inl s))
          | inr pl ↦ absurd (false≢true (sym e ∙ parent_true f k pl.0))
        ],
      )

  action_step : (f d : Text) → IsKept t (With S r) f → IsJoin (Says t (With S r) f d) ((without_one r m).table.action f d)
  action_step f d k' = go (m.enabled_by r f) refl
    where
      k : IsKept t S f
      k = (older f k').0

      go : (b : Bool) → m.enabled_by r f ≡ b → IsJoin (Says t (With S r) f d) (cond b (join_option (m.table.action f d) (m.table.action r d)) (m.table.action f d))
      go true e = join_halves
          (λ a. (
            λ s. elim ((label_split (Edge t) S r (λ b x. t.action b d ≡ Some x) f a).0 s) [ inl l ↦ inl l | inr pl ↦ inr pl.1 ],
            elim [ inl l ↦ (label_split (Edge t) S r (λ b x. t.action b d ≡ Some x) f a).1 (inl l) | inr l ↦ (label_split (Edge t) S r (λ b x. t.action b d ≡ Some x) f a).1 (inr ((reaches_r f e).1, l)) ],
          ))
          _ _ (h.action f d k) (h.action r d kept_r)
      go false e = join_alike
          (λ a. (
            λ l. (label_split (Edge t) S r (λ b x. t.action b d ≡ Some x) f a).1 (inl l),
            λ s. elim ((label_split (Edge t) S r (λ b x. t.action b d ≡ Some x) f a).0 s) [ inl l ↦ l | inr pl ↦ absurd (false≢true (sym e ∙ parent_true f k pl.0)) ],
          ))
          _ (h.action f d k)

  enabled_step : (f e : Text) → IsKept t (With S r) f → IsTrue ((without_one r m).enabled_by f e) ↔ IsEnabledBy t (With S r) f e
  enabled_step f e k' = search (rules, older, and_parts, apart_from, or_cases, newer, widen, kept_r, joined, and_from, split, or_left, or_right, apart_false, false≢true, child_true)

  pub step : IsResolved t (With S r) (without_one r m)
  step = record { kept = has_step; names = names_step; enabled_by = enabled_step; action = action_step }
