use Rattle.cargo_toml_manifest.proofs.Cited.{IsRootFault, Memory, fault_of, ◌≡◌, ◌⊎◌}
use Rattle.cargo_toml_manifest.proofs.lookup.root_above.Given as goal

abbrev pub invariant-loop-above : goal.invariant-loop-above
invariant-loop-above g l = (l.last ≡ Memory) ⊎ IsRootFault (fault_of l.last)
