use Rattle.std.specs.List.{flat_map}
use Rattle.cargo_toml_check.specs.Listed.{row_at}
use Rattle.cargo_toml_answers.specs.Adding.{rows_tokens}
use Rattle.cargo_toml_answers.proofs.Adding.{Leads}
use Rattle.cargo_toml_answers.proofs.listing.put_named.Given as goal

abbrev pub invariant-loop-name : goal.invariant-loop-name
invariant-loop-name g l =
    Leads l.initial.out l.out (rows_tokens (flat_map (λ k. row_at g.X.Put.json l.found k.now) l.name-iterator))
    (rows_tokens (flat_map (λ k. row_at g.X.Put.json l.found k.now) l.names.keys))
