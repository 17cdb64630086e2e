use Rattle.std.proofs.Common.{map}
use Rattle.cargo_toml_answers.proofs.Adding.{Leads}
use Rattle.cargo_toml_answers.specs.Adding.{rows_tokens}
use Rattle.cargo_toml_answers.proofs.writing.BTreeMapRefStrPut.put.Given as goal

abbrev pub invariant-loop-name : goal.invariant-loop-name
invariant-loop-name g l =
    Leads l.initial.out l.out (rows_tokens (map (λ e. (e.0.now, g.X.Put.json e.1)) l.name-iterator))
    (rows_tokens (map (λ e. (e.0.now, g.X.Put.json e.1)) l.self.entries))
