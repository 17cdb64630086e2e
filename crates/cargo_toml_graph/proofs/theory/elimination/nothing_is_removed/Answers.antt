use Rattle.std.proofs.{Common.IsTrue, Common.sym, Common.◌∙◌, lemmas.Bool.false≢true}
use Rattle.cargo_toml_graph.proofs.Unremoved.{resolved_unremoved}
use Rattle.cargo_toml_graph.proofs.theory.elimination.nothing_is_removed.Goals as goal

pub returns : goal.returns
returns c = λ t m removed none start. resolved_unremoved t m (λ v. IsTrue (removed v)) (λ v y. false≢true (sym (none v) ∙ y)) start
