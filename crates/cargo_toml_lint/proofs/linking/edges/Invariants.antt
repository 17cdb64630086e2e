use Rattle.cargo_toml_lint.proofs.Cited.{held_names, listed_by, map, nth_text, Passes, turned}
use Rattle.cargo_toml_lint.proofs.Edges.{IsFilled}
use Rattle.cargo_toml_lint.proofs.linking.edges.Given as goal

abbrev pub invariant-loop-place : goal.invariant-loop-place
invariant-loop-place l = IsFilled (λ a. Passes l.names (turned (listed_by l.known)
    (held_names l.known).optional (nth_text (map (λ t. t.now) l.names) a))) l.place l.next.items
