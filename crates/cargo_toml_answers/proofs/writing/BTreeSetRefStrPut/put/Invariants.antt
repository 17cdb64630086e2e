use Rattle.std.proofs.Common.{map}
use Rattle.serde_json.specs.Data.{string}
use Rattle.cargo_toml_answers.proofs.Adding.{Leads, values_tokens}
use Rattle.cargo_toml_answers.proofs.writing.BTreeSetRefStrPut.put.Given as goal

abbrev pub invariant-loop-text : goal.invariant-loop-text
invariant-loop-text l =
    Leads l.initial.out l.out (values_tokens (map (λ t. string t.now) l.text-iterator))
    (values_tokens (map (λ t. string t.now) l.self.keys))
