use Rattle.std.proofs.Common.{◌∷◌, ◌≡◌, [], IsTrue, bytes_eq, codes, false, refl, inl, inr, arith}
use Rattle.std.proofs.lemmas.{Bool.false≢true, Grind.common_steps, Slice.Eq.bytes_eq-Decides}
use Rattle.cargo_toml_graph.specs.{Admitted.Listed, Action.Text, SmallTables.features_alone, Graph.IsKept, Reach.Among}
use Rattle.cargo_toml_graph.proofs.WorkedExamples.{differ, enabler_left, names_left, redirect_left}
use Rattle.cargo_toml_graph.proofs.theory.small_tables.a_hidden_feature_that_names_itself.Goals as goal

abbrev itself : Listed
itself = (codes "_s", codes "_s" ∷ codes "b" ∷ []) ∷ (codes "b", []) ∷ (codes "k", codes "_s" ∷ []) ∷ []

kept : (f : Text) → IsTrue ((features_alone itself).has f) → bytes_eq f (codes "_s") ≡ false → IsKept (features_alone itself) (Among (codes "_s" ∷ [])) f
kept f there apart = (there, elim [ inl e ↦ differ apart e | inr i ↦ i ])

pub returns-clause-names : goal.returns-clause-names
returns-clause-names c = λ x. names_left itself (codes "_s") (codes "k") refl (kept _ refl refl) x _ (grind (arith, common_steps, bytes_eq-Decides, false≢true))

pub returns-clause-enabled_by : goal.returns-clause-enabled_by
returns-clause-enabled_by c = enabler_left itself (codes "_s") (codes "b") refl (kept _ refl refl) (codes "k") refl
    ((λ y. absurd (false≢true y)), ((λ y. inr refl), ((λ y. absurd (false≢true y)), ((λ y. inl refl), tt))))

pub returns-clause-redirect : goal.returns-clause-redirect
returns-clause-redirect c = λ x. redirect_left itself (codes "_s") (codes "k") refl (kept _ refl refl) x _ (grind (arith, common_steps, bytes_eq-Decides, false≢true))
