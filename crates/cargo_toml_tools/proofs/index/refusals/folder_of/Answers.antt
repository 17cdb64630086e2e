use Rattle.std.proofs.Common.{◌++◌, ◌∙◌, ◌≡◌, ap, arith, codes, option_map, refl, rules, Some, string_bytes, sym}
use Rattle.std.proofs.lemmas.Grind.{common_steps}
use Rattle.semver.specs.Identifiers.{parts_of, parts_text}
use Rattle.cargo_toml.specs.InheritableValues.{value_of}
use Rattle.cargo_toml.specs.Inherits.{inheritable_map}
use Rattle.cargo_toml_tools.proofs.index.refusals.folder_of.Goals as goal

pub returns : goal.returns
returns g c =
    let spelled : string_bytes c.in_ok-format.field-0 ≡ string_bytes c.args.package.now.name ++ codes "-" ++ parts_text (parts_of c.in-Set.version) =
    first_of (search (rules, c.in_ok-format.ensures.ok), grind (arith, common_steps)) in
    ap Some spelled
    ∙ sym (ap (λ v. option_map (λ v. string_bytes c.args.package.now.name ++ codes "-" ++ parts_text v) (value_of (inheritable_map parts_of v))) c.in-Set.is)
