use Rattle.std.proofs.{Common.rules, lemmas.Iterator.Adapters.fact_from_collect}
use Rattle.cargo_toml_features.proofs.Gathering.{texts_made}
use Rattle.cargo_toml_features.proofs.sets.collected.Goals as goal

pub returns : goal.returns
returns c = search (rules, texts_made, fact_from_collect)
