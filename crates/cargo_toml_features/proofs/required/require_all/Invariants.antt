use Rattle.cargo_toml_features.proofs.Cited.{RequiredAll, bin_requirement, map, names_of, own_of, take, ◌≡◌}
use Rattle.cargo_toml_features.proofs.required.require_all.Given as goal

abbrev pub invariant-loop-requirement : goal.invariant-loop-requirement
invariant-loop-requirement l = record {
  required : RequiredAll (own_of (map bin_requirement (take l.requirement-index l.requirements))) l.initial.features l.features;
  same_names : names_of l.features ≡ names_of l.initial.features;
}
