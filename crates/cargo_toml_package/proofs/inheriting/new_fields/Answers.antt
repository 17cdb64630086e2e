use Rattle.cargo_toml_package.proofs.Cited.{option_copied, option_map, package_meaning, template_meaning, with_template_if_there}
use Rattle.cargo_toml_package.proofs.Integrity.{given}
use Rattle.cargo_toml_package.proofs.inheriting.new_fields.Goals as goal

pub returns : goal.returns
returns g c =
    let p = package_meaning (λ m. m) c.args.«package».now in
    let q = with_template_if_there c.args.base.now (option_map template_meaning (option_copied c.args.template)) p in
    rw c.and.ensures (given p q c.in_ok-new.new _ c.in_ok-new.ensures c.check_none_stays.ensures)
