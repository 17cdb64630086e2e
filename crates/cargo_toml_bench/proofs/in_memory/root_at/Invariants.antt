use Rattle.{std.proofs.Common.◌≡◌, std.proofs.Common.drop, std.specs.Option.option_copied, cargo_toml_bench.specs.InMemory.told_root_at}
use Rattle.cargo_toml_bench.proofs.in_memory.root_at.Given as goal

abbrev pub invariant-loop-root : goal.invariant-loop-root
invariant-loop-root l = told_root_at l.roots (option_copied l.hint) ≡ told_root_at (drop l.root-index l.roots) (option_copied l.hint)
