use Rattle.cargo_toml_audit.proofs.Cited.{YieldsList-from_str_split, lit<, map_from_collect}
use Rattle.cargo_toml_audit.proofs.members.places.pieces.Goals as goal

pub returns : goal.returns
returns c =
    map_from_collect _ c.collect.ensures.ran
    (YieldsList-from_str_split 47 c.args.path.now (lit< tt) c.split.ensures.text c.split.ensures.has_more c.split.ensures.pattern)
