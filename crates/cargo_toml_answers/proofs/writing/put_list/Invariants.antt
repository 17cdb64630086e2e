use Rattle.std.proofs.Common.{drop, map}
use Rattle.cargo_toml_answers.proofs.Adding.{Leads, values_tokens}
use Rattle.cargo_toml_answers.proofs.writing.put_list.Given as goal

abbrev pub invariant-loop-one : goal.invariant-loop-one
invariant-loop-one g l =
    Leads l.initial.out l.out (values_tokens (map g.X.Put.json (drop l.one-index l.list)))
    (values_tokens (map g.X.Put.json l.list))
