use Rattle.std.proofs.Common.{ap, ◌∙◌, option_map}
use Rattle.toml.specs.View.{view}
use Rattle.toml.proofs.Views.{view-lookup}
use Rattle.cargo_toml_parts.proofs.Taken.{is_left}
use Rattle.cargo_toml_parts.proofs.read.take.Goals as goal

pub returns-clause-value : goal.returns-clause-value
returns-clause-value c = ap (option_map view) c.remove.ensures.value ∙ view-lookup c.args.key.now c.args.table.now.entries

pub returns-clause-left : goal.returns-clause-left
returns-clause-left c = is_left c.args.key.now c.args.table.now.entries c.remove.new.self.entries c.remove.ensures.entries c.remove.ensures.updates.1
