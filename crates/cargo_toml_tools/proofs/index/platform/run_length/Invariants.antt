use Rattle.std.proofs.Common.{◌≡◌, ◌+◌, drop}
use Rattle.std.specs.List.{prefix_len}
use Rattle.cargo_toml_tools.specs.Platforms.{is_in}
use Rattle.cargo_toml_tools.proofs.index.platform.run_length.Given as goal

abbrev pub invariant-loop-place : goal.invariant-loop-place
invariant-loop-place l = l.place + prefix_len (is_in l.run) (drop l.place l.text) ≡ prefix_len (is_in l.run) l.text
