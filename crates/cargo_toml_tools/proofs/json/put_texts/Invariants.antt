use Rattle.cargo_toml_tools.proofs.Cited.{◌≡◌, map, string, string_bytes, take, view}
use Rattle.cargo_toml_tools.proofs.json.put_texts.Given as goal

abbrev pub invariant-loop-text : goal.invariant-loop-text
invariant-loop-text l = map view l.items.items ≡ map string (map string_bytes (take l.text-index l.texts))
