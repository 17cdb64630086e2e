-- What is said of a join settles it, and what is said of a resolution settles what its features hold.
use Rattle.std.proofs.Common.{◌≡◌, ◌↔◌, Bool, IsTrue, IsFalse, List, Option, Some, None, refl, ap, arith, rules}
use Rattle.std.proofs.lemmas.{Bool.false≢true, Grind.common_steps}
use Rattle.cargo_toml_graph.specs.{Action.Text, Action.Action, Action.IsJoin, Graph.Table, Graph.Resolution, Graph.IsResolved, Graph.IsUnremoved, Reach.Among, Reach.IsOnce, Removal.without_all}
use Rattle.cargo_toml_graph.specs.Removal.{SameKept}
use Rattle.cargo_toml_graph.proofs.{Members.resolved_alike, Elimination.all_taken_out, Texts.by_true}

by_false : (a b : Bool) → IsFalse a ↔ IsFalse b → a ≡ b
by_false v0 v1 v2 = grind (arith, common_steps)

join_settled : {P : Action → Type 0} (o p : Option Action) → IsJoin P o → IsJoin P p → o ≡ p
join_settled None None h k = refl
join_settled None (Some j) h k = absurd (false≢true (h.there.1 (k.there.0 refl)))
join_settled (Some i) None h k = absurd (false≢true (k.there.1 (h.there.0 refl)))
join_settled (Some i) (Some j) h k =
    let conditional : i.is_conditional ≡ j.is_conditional = by_false i.is_conditional j.is_conditional (λ e. k.plain.1 (h.plain.0 e), λ e. h.plain.1 (k.plain.0 e)) in
    let dep_only : i.is_dep_only ≡ j.is_dep_only = by_true i.is_dep_only j.is_dep_only (λ e. k.dep_only.1 (h.dep_only.0 e), λ e. h.dep_only.1 (k.dep_only.0 e)) in
    let features : (x : Text) → i.features x ≡ j.features x = λ x. by_true (i.features x) (j.features x) (λ e. (k.features x).1 ((h.features x).0 e), λ e. (h.features x).1 ((k.features x).0 e)) in
    ap Some (λ d. record { is_conditional = conditional d; is_dep_only = dep_only d; features = λ x. features x d })

-- R: the removed features
module _ (t : Table) (R : Text → Type 0) (m n : Resolution) (h : IsResolved t R m) (k : IsResolved t R n) where
  pub resolution_settled : SameKept m n
  resolution_settled = search (rules, by_true, join_settled)

pub order_free : (t : Table) (m : Resolution) (a b : List Text) → IsUnremoved t m → ((v : Text) → Among a v → IsTrue (t.has v)) → IsOnce a → IsOnce b → ((v : Text) → Among a v ↔ Among b v)
    → SameKept (without_all a m) (without_all b m)
order_free t m a b start there once-a once-b same = search (rules, resolution_settled, all_taken_out, resolved_alike)
