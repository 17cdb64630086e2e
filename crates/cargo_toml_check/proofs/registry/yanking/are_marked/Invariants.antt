use Rattle.std.proofs.Common.{◌≡◌, map, take}
use Rattle.cargo_toml_check.specs.IndexFiles.{entry, marked}
use Rattle.cargo_toml_check.proofs.registry.yanking.are_marked.Given as goal

abbrev pub invariant-loop-index : goal.invariant-loop-index
invariant-loop-index l =
    map entry (map (λ t. t.now) (take l.index l.new)) ≡ map (λ t. marked l.of.0.now l.of.1.now l.yanked (entry t)) (map (λ t. t.now) (take l.index l.old))
