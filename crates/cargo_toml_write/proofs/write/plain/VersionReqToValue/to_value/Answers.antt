use Rattle.toml.specs.declared.value.Value.{String}
use Rattle.cargo_toml_parts.specs.Versions.{requirement_meaning, requirement_of}
use Rattle.cargo_toml_write.proofs.Writers.{◌∙◌, ap, floatless_again, requirement_again, requirement_way, string, view, view-String}
use Rattle.cargo_toml_write.proofs.write.plain.VersionReqToValue.to_value.Goals as goal

pub returns-clause-read_again : goal.returns-clause-read_again
returns-clause-read_again c from_text =
    let held = requirement_meaning c.args.self.now in
    let is : requirement_way.trees held (view (String c.in_ok-requirement_text.field-0)) = view-String c.in_ok-requirement_text.field-0 ∙ ap string c.in_ok-requirement_text.ensures in
    floatless_again requirement_of _ held ((requirement_way.lawful held).floatless _ is) (requirement_again.each held from_text _ is)
