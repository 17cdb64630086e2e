use Rattle.cargo_toml_manifest.proofs.Holding.{holds_bytes}
use Rattle.cargo_toml_manifest.proofs.held.HeldManifest.from_slice.Goals as goal

pub returns-in-Ok : goal.returns-in-Ok
returns-in-Ok c = holds_bytes c.in-Ok.manifest c.new.result c.new.ensures.same c.new.ensures.refused c.args.bytes.now c.in-Ok.ensures
