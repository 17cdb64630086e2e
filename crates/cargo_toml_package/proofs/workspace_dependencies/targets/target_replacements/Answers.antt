use Rattle.std.proofs.Common.{rules}
use Rattle.cargo_toml_package.proofs.Targets.{gives_until, made_all, made_push}
use Rattle.cargo_toml_package.proofs.workspace_dependencies.targets.target_replacements.Goals as goal

pub returns-in_err-new_target : goal.returns-in_err-new_target
returns-in_err-new_target c = search (rules, gives_until)

pub loop-target-preserved : goal.loop-target-preserved
loop-target-preserved c = search (rules, made_push)

pub returns : goal.returns
returns c = search (rules, made_all)
