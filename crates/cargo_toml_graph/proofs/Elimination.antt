-- Features taken out one after another.
use Rattle.std.proofs.Common.{◌⊎◌, ◌↔◌, IsTrue, List, [], ◌∷◌, refl, subst, inl, inr, arith, rules}
use Rattle.std.proofs.lemmas.Grind.{common_steps}
use Rattle.cargo_toml_graph.specs.{Action.Text, Reach.With, Reach.Among, Reach.IsOnce, Graph.Table, Graph.Resolution, Graph.IsResolved, Graph.IsUnremoved, Removal.without_one, Removal.without_all}
use Rattle.cargo_toml_graph.proofs.{Unremoved.resolved_unremoved, Members.resolved_alike, OneRemoval.step}

-- after the features of a list, those in S removed before
abbrev pub After : (Text → Type 0) → List Text → Text → Type 0
After S [] v = S v
After S (r ∷ rs) v = After (With S r) rs v

pub steps : (t : Table) (rs : List Text) (S : Text → Type 0) (m : Resolution) → ((v : Text) → Among rs v → IsTrue (t.has v) × ¬ S v) → IsOnce rs → IsResolved t S m → IsResolved t (After S rs) (without_all rs m)
steps t [] S m there once h = h
steps t (r ∷ rs) S m there once h = grind (arith, common_steps, step, steps t rs (With S r) (without_one r m) (λ v i. ((there v (inr i)).0, elim [ inl s ↦ (there v (inr i)).1 s | inr e ↦ once.0 (subst (Among rs) e i) ])) once.1 (step t S m h r (there r (inl refl)).0 (there r (inl refl)).1))

pub after-among : (rs : List Text) (S : Text → Type 0) (v : Text) → After S rs v ↔ (S v ⊎ Among rs v)
after-among [] S v = (inl, elim [ inl s ↦ s | inr i ↦ absurd i ])
after-among (r ∷ rs) S v = search (rules, after-among rs (With S r) v)

-- features taken out one after another, in any order
pub all_taken_out : (t : Table) (rs : List Text) (m : Resolution) → IsUnremoved t m → ((v : Text) → Among rs v → IsTrue (t.has v)) → IsOnce rs → IsResolved t (Among rs) (without_all rs m)
all_taken_out t rs m start there once =
    resolved_alike t (After (λ _. ⊥) rs) (Among rs)
    (λ v a. elim ((after-among rs (λ _. ⊥) v).0 a) [ inl s ↦ absurd s | inr i ↦ i ])
    (λ v i. (after-among rs (λ _. ⊥) v).1 (inr i))
    (without_all rs m)
    (steps t rs (λ _. ⊥) m (λ v i. (there v i, λ s. s)) once (resolved_unremoved t m (λ _. ⊥) (λ _ s. s) start))
