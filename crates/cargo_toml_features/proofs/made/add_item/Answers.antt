use Rattle.cargo_toml_features.proofs.Cited.{arith, common_steps}
use Rattle.cargo_toml_features.proofs.Making.{acting, made_name, made_on, naming}
use Rattle.cargo_toml_features.proofs.made.add_item.Goals as goal

pub returns-in_ok-join_action : goal.returns-in_ok-join_action
returns-in_ok-join_action c = grind (arith, common_steps, made_on, acting)

pub returns-in_ok-add_text : goal.returns-in_ok-add_text
returns-in_ok-add_text c = grind (arith, common_steps, made_name, naming)
