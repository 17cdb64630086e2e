use Rattle.{std.proofs.Common.◌≡◌, std.proofs.Common.drop, cargo_toml_bench.specs.InMemory.told_at}
use Rattle.cargo_toml_bench.proofs.in_memory.answer_at.Given as goal

abbrev pub invariant-loop-folder : goal.invariant-loop-folder
invariant-loop-folder l = told_at l.folders l.path ≡ told_at (drop l.folder-index l.folders) l.path
