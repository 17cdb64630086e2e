use Rattle.std.proofs.Common.{bytes_eq, map, take, ◌≡◌}
use Rattle.std.specs.{BTreeSet.contains_text, List.list_any}
use Rattle.cargo_toml.specs.Action.{Text}
use Rattle.cargo_toml_answers.proofs.sets.set_of.Given as goal

abbrev pub invariant-loop-text : goal.invariant-loop-text
invariant-loop-text l = (text : Text) → contains_text l.set text ≡ list_any (bytes_eq text) (map (λ t. t.now) (take l.text-index l.texts))
