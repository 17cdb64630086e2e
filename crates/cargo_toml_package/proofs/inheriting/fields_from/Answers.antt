use Rattle.cargo_toml_package.proofs.Cited.{arith, ends_ok}
use Rattle.cargo_toml_package.proofs.inheriting.fields_from.Goals as goal

pub returns : goal.returns
returns g c = ends_ok _ _ _ _ c.finish.ensures (λ after. grind arith)
