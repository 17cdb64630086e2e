use Rattle.{std.proofs.Common.map, std.proofs.Common.string_bytes, std.proofs.Common.take, cargo_toml.specs.Folders.HasTexts}
use Rattle.cargo_toml_bench.proofs.in_memory.set_of.Given as goal

abbrev pub invariant-loop-name : goal.invariant-loop-name
invariant-loop-name l = HasTexts l.set (map string_bytes (take l.name-index l.names))
