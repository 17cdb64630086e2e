use Rattle.std.proofs.Common.{◌≡◌, map, option_map, string_bytes, take, true}
use Rattle.std.specs.{BTreeMap.get_by_text}
use Rattle.cargo_toml.specs.Action.{Text}
use Rattle.cargo_toml_check.specs.IndexFiles.{are_of, latest, versions}
use Rattle.cargo_toml_check.proofs.registry.joining.versions.Given as goal

abbrev pub invariant-loop-index : goal.invariant-loop-index
invariant-loop-index l = record {
  last : (v : Text) → option_map string_bytes (get_by_text l.found v) ≡ latest (versions l.name (map (λ t. t.now) (take l.index l.lines))) v;
  whole : are_of l.name (map (λ t. t.now) (take l.index l.lines)) ≡ true;
}
