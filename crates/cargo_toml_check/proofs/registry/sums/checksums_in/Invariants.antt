use Rattle.std.proofs.Common.{◌≡◌, map, take}
use Rattle.cargo_toml.specs.Action.{Text}
use Rattle.cargo_toml_tools.specs.IndexedFiles.{sum_at}
use Rattle.cargo_toml_check.specs.IndexFiles.{latest, sums_in}
use Rattle.cargo_toml_check.proofs.registry.sums.checksums_in.Given as goal

abbrev pub invariant-loop-line : goal.invariant-loop-line
invariant-loop-line l =
    (name : Text) → sum_at l.sums name ≡ latest (sums_in (map (λ t. t.now) (take l.line-index l.lines))) name
