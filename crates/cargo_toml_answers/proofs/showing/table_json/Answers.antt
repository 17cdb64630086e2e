use Rattle.serde_json.specs.Data.{no_members, object}
use Rattle.toml.specs.View.{table_view}
use Rattle.cargo_toml_check.specs.Shown.{with_json}
use Rattle.cargo_toml_answers.proofs.Adding.{text_is}
use Rattle.cargo_toml_answers.proofs.showing.table_json.Goals as goal

pub returns : goal.returns
returns c = text_is c.text_of.result _ _ (object (with_json (table_view c.args.tree.now) no_members)) c.in_ok-out.ensures.before c.in_ok-out.ensures.tokens c.in_ok-put_table.ensures c.text_of.ensures
