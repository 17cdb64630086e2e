use Rattle.cargo_toml_manifest.proofs.Holding.{holds_text}
use Rattle.cargo_toml_manifest.proofs.held.HeldManifest.from_str.Goals as goal

pub returns-in-Ok : goal.returns-in-Ok
returns-in-Ok c = holds_text c.in-Ok.manifest c.new.result c.new.ensures.same c.new.ensures.refused c.args.text.now c.in-Ok.ensures
