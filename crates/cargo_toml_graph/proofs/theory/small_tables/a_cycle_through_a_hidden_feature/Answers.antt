use Rattle.std.proofs.Common.{◌∷◌, [], codes, refl, inl, inr, arith}
use Rattle.std.proofs.lemmas.{Bool.false≢true, Grind.common_steps, Slice.Eq.bytes_eq-Decides}
use Rattle.cargo_toml_graph.specs.{Admitted.Listed, SmallTables.features_alone, Graph.IsKept, Reach.Among}
use Rattle.cargo_toml_graph.proofs.WorkedExamples.{differ, enabler_left, names_left, redirect_left}
use Rattle.cargo_toml_graph.proofs.theory.small_tables.a_cycle_through_a_hidden_feature.Goals as goal

abbrev cycle : Listed
cycle = (codes "_h", codes "a" ∷ []) ∷ (codes "a", codes "_h" ∷ []) ∷ []

kept : IsKept (features_alone cycle) (Among (codes "_h" ∷ [])) (codes "a")
kept = (refl, elim [ inl e ↦ differ refl e | inr i ↦ i ])

pub returns-clause-names : goal.returns-clause-names
returns-clause-names c = λ x. names_left cycle (codes "_h") (codes "a") refl kept x _ (grind (arith, common_steps, bytes_eq-Decides, false≢true))

pub returns-clause-enabled_by : goal.returns-clause-enabled_by
returns-clause-enabled_by c = enabler_left cycle (codes "_h") (codes "a") refl kept (codes "a") refl ((λ y. absurd (false≢true y)), ((λ y. inr refl), ((λ y. inl refl), tt)))

pub returns-clause-redirect : goal.returns-clause-redirect
returns-clause-redirect c = λ x. redirect_left cycle (codes "_h") (codes "a") refl kept x _ (grind (arith, common_steps, bytes_eq-Decides, false≢true))
