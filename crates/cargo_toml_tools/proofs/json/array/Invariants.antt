use Rattle.cargo_toml_tools.proofs.Cited.{◌≡◌, map, string, take, view}
use Rattle.cargo_toml_tools.proofs.json.array.Given as goal

abbrev pub invariant-loop-text : goal.invariant-loop-text
invariant-loop-text l = map view l.items.items ≡ map string (map (λ t. t.now) (take l.text-index l.texts))
