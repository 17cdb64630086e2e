use Rattle.cargo_toml_audit.proofs.Cited.{TargetMeaning, Text, arith, common_steps, flat_flat, map_meaning, target_by_kind, target_meaning, with_kind}
use Rattle.cargo_toml_audit.proofs.audit.dependencies.entries.Goals as goal

pub returns : goal.returns
returns g c = grind (arith, common_steps, flat_flat with_kind (λ (t : Text × TargetMeaning). target_by_kind t.1) (map_meaning target_meaning c.args.manifest.now.target))
