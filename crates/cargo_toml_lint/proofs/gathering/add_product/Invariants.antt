use Rattle.cargo_toml_lint.proofs.Cited.{◌++◌, ◌≡◌, about, held_names, map, required_fault, string_bytes, take, texts_findings}
use Rattle.cargo_toml_lint.proofs.gathering.add_product.Given as goal

abbrev pub invariant-loop-text : goal.invariant-loop-text
invariant-loop-text l =
    map about l.found.items ≡ map about l.initial.found.items
    ++ texts_findings (required_fault (held_names l.known)) l.name
    (map string_bytes (take l.text-index l.product.required_features.items))
