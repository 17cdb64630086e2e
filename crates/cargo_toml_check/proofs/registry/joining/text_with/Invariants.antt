use Rattle.std.proofs.Common.{◌≡◌, ◌++◌, option_map, string_bytes, take}
use Rattle.std.specs.{BTreeMap.get_by_text, List.flat_map}
use Rattle.cargo_toml_check.specs.IndexFiles.{added, ended}
use Rattle.cargo_toml_check.proofs.registry.joining.text_with.Given as goal

abbrev pub invariant-loop-line : goal.invariant-loop-line
invariant-loop-line l =
    string_bytes l.text ≡ ended l.old ++ flat_map (added (λ v. option_map string_bytes (get_by_text l.versions v))) (take l.line-index l.new)
