use Rattle.cargo_toml_resolve.proofs.NumberRows.{all_kept}
use Rattle.cargo_toml_resolve.proofs.numbering.all_flags.Goals as goal

pub returns-clause-flags : goal.returns-clause-flags
returns-clause-flags c = all_kept c.args.flags.items c.resize.new.self.items c.args.size _ c.requires c.in_ok-resize.ensures.items
