use Rattle.cargo_toml_resolve.{specs.Texts.texts_now, proofs.BinTurns.filled}
use Rattle.cargo_toml_resolve.proofs.passing.know.Goals as goal

pub returns-else-is_empty : goal.returns-else-is_empty
returns-else-is_empty c = filled c.args.known.now (texts_now c.args.bins.now) c.is_empty.result c.is_empty.ensures c.if-is_empty.false c.requires
