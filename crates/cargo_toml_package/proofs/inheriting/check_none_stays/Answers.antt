use Rattle.cargo_toml_package.proofs.Cited.{inr, installed_package, package_meaning, sym, ◌∙◌}
use Rattle.cargo_toml_package.proofs.Integrity.{refused}
use Rattle.cargo_toml_package.proofs.inheriting.check_none_stays.Goals as goal

pub returns-then-any_stays : goal.returns-then-any_stays
returns-then-any_stays g c =
    let p = installed_package (package_meaning (λ m. m) c.args.«package».now) c.args.new.now in
    inr (refused p c.in_ok-text.text (sym c.if-any_stays.true ∙ c.any_stays.ensures) (rw c.as_str-name.ensures.value at c.in_ok-text.ensures.ok))
