use Rattle.std.proofs.Common.{ap, ◌∙◌}
use Rattle.std.specs.BTreeMap.{get_by_text}
use Rattle.cargo_toml_check.specs.IndexFiles.{released}
use Rattle.cargo_toml_check.proofs.registry.joining.standing.Goals as goal

pub returns : goal.returns
returns c = c.get.ensures.value ∙ ap (λ k. get_by_text c.args.versions.now k) (c.released.ensures ∙ ap released c.as_str.ensures.value)
