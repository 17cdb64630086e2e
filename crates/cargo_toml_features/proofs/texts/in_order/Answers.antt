use Rattle.cargo_toml_features.proofs.ByPlace.{same_texts, new_ascends}
use Rattle.cargo_toml_features.proofs.texts.in_order.Goals as goal

pub returns-clause-all : goal.returns-clause-all
returns-clause-all c = same_texts c.args.texts.items c.sort_unstable.new.self.items c.dedup.new.self.items c.sort_unstable.ensures.permutation c.dedup.ensures.filtered

pub returns-clause-ascending : goal.returns-clause-ascending
returns-clause-ascending c = new_ascends c.args.texts.items c.sort_unstable.new.self.items c.dedup.new.self.items c.sort_unstable.ensures.permutation c.dedup.ensures.filtered c.sort_unstable.ensures.sorted
