use Rattle.std.proofs.Common.{inr}
use Rattle.cargo_toml_manifest.proofs.FileFaults.{nothing_found, unread}
use Rattle.cargo_toml_shallow.proofs.Roots.{as_ever, no_shallow_root}
use Rattle.cargo_toml_shallow.proofs.lookup.root_above.Goals as goal

pub loop-above-init : goal.loop-above-init
loop-above-init g c = inr (inr (nothing_found c.from.result c.from.ensures))

pub returns-in_default : goal.returns-in_default
returns-in_default g c = inr (inr (nothing_found c.from.result c.from.ensures))

pub returns-in-Err-2 : goal.returns-in-Err-2
returns-in-Err-2 g c = as_ever _ (unread c.in-Err.fault c.from-in-Err-2.result c.from-in-Err-2.ensures)

pub loop-above-preserved : goal.loop-above-preserved
loop-above-preserved g c = no_shallow_root c.in-Err-workspace_of.fault c.in-Err-workspace_of.ensures
