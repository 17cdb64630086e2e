use Rattle.std.proofs.Common.{sym, ◌∙◌}
use Rattle.cargo_toml_resolve.proofs.NumberRows.{one_name}
use Rattle.cargo_toml_resolve.proofs.numbering.only_name.Goals as goal

pub returns : goal.returns
returns c = rw c.copied.ensures (one_name c.args.named.now c.first.result (sym c.len.ensures.len ∙ c.if-len-ne1.false) c.first.ensures.first)
