use Rattle.cargo_toml_resolve.proofs.Cited.{Among, FindsNamed, IsWanted, Leads, false, take, ℕ}
use Rattle.cargo_toml_resolve.proofs.walk.visit_rows.Given as goal

abbrev pub invariant-loop-b : goal.invariant-loop-b
invariant-loop-b l = FindsNamed (λ x. ((b : ℕ) × Among (take l.b-index l.passed) b × Leads l.labels b x) × IsWanted l.flags false x) l.initial.found.items l.found.items l.initial.met l.met
