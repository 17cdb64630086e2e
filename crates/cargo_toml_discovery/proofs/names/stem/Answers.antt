use Rattle.cargo_toml_discovery.proofs.Stems.{trimmed}
use Rattle.cargo_toml_discovery.proofs.names.stem.Goals as goal

pub returns : goal.returns
returns c = trimmed c.args.name.now c.trim_end_matches.result.now c.trim_end_matches.ensures.matches
