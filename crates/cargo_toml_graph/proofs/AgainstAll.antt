-- A resolution beside one of the same table that removes nothing.
use Rattle.std.proofs.Common.{Bool, IsTrue, IsFalse, sym, ◌∙◌, arith, rules}
use Rattle.std.proofs.lemmas.{Bool.false≢true, Grind.common_steps}
use Rattle.cargo_toml_graph.specs.{Action.Text, Reach.Reaches.edge, Reach.Reaches.through, Graph.Table, Graph.Resolution, Graph.IsResolved, Graph.IsUnremoved, Graph.EnablesAtLast, Kept.KeepsEnabling}
use Rattle.cargo_toml_graph.specs.{Kept.LosesNothing, Recursive.Enables, Recursive.Enables.itself, Recursive.Enables.further, Removal.SameKept, Removal.unremoved}
use Rattle.cargo_toml_graph.proofs.{Closure.at_last_before, Closure.at_last_after, Edges.unremoved_is, NothingLost.keeps_enabled, NothingLost.keeps_dependency, Settled.resolution_settled}
use Rattle.cargo_toml_graph.proofs.Unremoved.{resolved_unremoved}

-- features that hold the same enable the same transitively
same_at_last : (m n : Resolution) → SameKept m n → {a b : Text} → IsTrue (m.table.has b) → EnablesAtLast m a b → EnablesAtLast n a b
same_at_last m n s k (edge e) = edge (sym (s.enabled_by _ _ k) ∙ e)
same_at_last m n s k (through e h p) = through (sym (s.enabled_by _ _ h) ∙ e) (sym (s.has _) ∙ h) (same_at_last m n s k p)

there_too : (m n : Resolution) → SameKept m n → (f : Text) → IsTrue (m.table.has f) → IsTrue (n.table.has f)
there_too m n s f h = sym (s.has f) ∙ h

same_back : (m n : Resolution) → SameKept m n → SameKept n m
same_back m n s = grind (arith, common_steps)

-- what f enables is there
enabled_is_there : (m : Resolution) {f g : Text} → IsTrue (m.table.has f) → Enables m.table f g → IsTrue (m.table.has g)
enabled_is_there v0 v1 v2 = grind arith

same_enabled : (m n : Resolution) → SameKept m n → {f g : Text} → IsTrue (m.table.has f) → Enables m.table f g → Enables n.table f g
same_enabled m n s h itself = itself
same_enabled m n s h (further e t there) = search (rules, enabled_is_there, there_too, same_enabled m n s h e, further)

module _ (t : Table) (removed nothing : Text → Bool) (full m : Resolution) (none : (v : Text) → IsFalse (nothing v)) (all : IsResolved t (λ v. IsTrue (nothing v)) full) (h : IsResolved t (λ v. IsTrue (removed v)) m) where
  no_one : (v : Text) → ¬ IsTrue (nothing v)
  no_one v y = false≢true (sym (none v) ∙ y)

  start : IsUnremoved t (unremoved t)
  start = unremoved_is t

  same : SameKept full (unremoved t)
  same = resolution_settled t (λ v. IsTrue (nothing v)) full (unremoved t) all (resolved_unremoved t (unremoved t) (λ v. IsTrue (nothing v)) no_one start)

  in_full : (f : Text) → IsTrue (m.table.has f) → IsTrue (full.table.has f)
  in_full f y = (all.kept f).1 (((h.kept f).0 y).0, no_one f)

  pub keeps_enabling : KeepsEnabling full m
  keeps_enabling a b there-a there-b = search (rules, same_at_last, same_back, same, there_too, in_full, at_last_before, start, at_last_after)

  pub loses_nothing : LosesNothing full m
  loses_nothing = record {
    features = λ f g there there' e. keeps_enabled t removed (unremoved t) m start h ((h.kept f).0 there) ((h.kept g).0 there') (same_enabled full (unremoved t) same (in_full f there) e);
    dependencies = λ f k g a there e. keeps_dependency t removed (unremoved t) m start h ((h.kept f).0 there)
        (same_enabled full (unremoved t) same (in_full f there) e.0, sym (same.action g k (enabled_is_there full (in_full f there) e.0)) ∙ e.1, e.2);
  }
