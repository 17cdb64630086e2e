use Rattle.std.proofs.Common.{◌≡◌, ◌∙◌, Some, ap, false, sym, unwrap_or}
use Rattle.serde_json.specs.View.{view}
use Rattle.serde_json.specs.Written.{compact_text, has_float}
use Rattle.cargo_toml_check.proofs.Joins.{entry-read, unyanked-no_float}
use Rattle.cargo_toml_check.proofs.registry.entries.said_in.Goals as goal

pub returns : goal.returns
returns c =
    let d = view c.args.value in
    let whole : has_float d ≡ false = sym c.has_float.ensures ∙ c.if-has_float.false in
    let made = c.in_ok-unyanked.ensures in
    entry-read d _ _ _ _ whole
    (ap Some c.in_ok-name.ensures.ok ∙ c.in-Some-Some.ensures)
    (ap Some c.in_ok-version.ensures.ok ∙ c.in-Some-Some.ensures')
    (c.unwrap_or-yanked.ensures ∙ ap (λ o. unwrap_or o false) c.flag_at.ensures)
    (c.in_ok-all.ensures.text (ap has_float made ∙ unyanked-no_float d whole) ∙ ap compact_text made)
