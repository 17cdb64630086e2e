use Rattle.std.proofs.Common.{map, take}
use Rattle.cargo_toml.specs.Folders.{HasTexts}
use Rattle.cargo_toml_answers.proofs.archive.names_of.Given as goal

abbrev pub invariant-loop-text : goal.invariant-loop-text
invariant-loop-text l = HasTexts l.set (map (λ t. t.now) (take l.text-index l.texts))
