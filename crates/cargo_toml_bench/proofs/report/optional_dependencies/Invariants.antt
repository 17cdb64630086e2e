use Rattle.cargo_toml_bench.proofs.Cited.{Dependency, DependencyMeaning, String, Text, dependency_meaning, map, optional_keys, string_bytes, texts, ◌++◌, ◌≡◌}
use Rattle.std.proofs.Common.{Global}
use Rattle.cargo_toml_bench.proofs.report.optional_dependencies.Given as goal

-- what an entry of a table of dependencies holds
abbrev pub entry_meaning : String Global × Dependency → Text × DependencyMeaning
entry_meaning e = (string_bytes e.0, dependency_meaning e.1)

abbrev pub invariant-loop-key : goal.invariant-loop-key
invariant-loop-key l = texts l.optional ++ optional_keys (map entry_meaning l.key-iterator) ≡ optional_keys (map entry_meaning l.dependencies.entries)
