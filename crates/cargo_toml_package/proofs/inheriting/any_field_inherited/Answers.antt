use Rattle.cargo_toml_package.proofs.Cited.{any_field_left, ap, arith, held_package, installed_package, sym, ◌∙◌, ◌≡◌}
use Rattle.cargo_toml_package.proofs.Lasting.{filled_package}
use Rattle.cargo_toml_package.proofs.inheriting.any_field_inherited.Goals as goal

pub returns : goal.returns
returns g c =
    let p = c.args.«package».now in
    let same : installed_package (held_package p) c.default.result ≡ held_package p = grind arith in
    let exact = c.any_stays.ensures ∙ ap any_field_left same in
    record { exact = exact; else_filled = λ none. filled_package p (sym exact ∙ none) }
