use Rattle.std.proofs.Common.{◌≡◌, ◌++◌, map, string_bytes, take}
use Rattle.cargo_toml_package.proofs.workspace_dependencies.entry.add_texts.Given as goal

abbrev pub invariant-loop-text : goal.invariant-loop-text
invariant-loop-text l = map string_bytes l.texts.items ≡ map string_bytes l.initial.texts.items ++ map string_bytes (take l.text-index l.more)
