use Rattle.cargo_toml_lint.proofs.Cited.{◌++◌, ◌≡◌, about, BadRequest, map, may_name, not, string_bytes, take, texts_findings, true, when}
use Rattle.cargo_toml_lint.proofs.tables.add_entry.Given as goal

abbrev pub invariant-loop-text : goal.invariant-loop-text
invariant-loop-text l =
    map about l.found.items ≡ map about l.initial.found.items
    ++ texts_findings (λ t. when (not (may_name true t)) BadRequest) l.key (map string_bytes (take l.text-index l.texts))
