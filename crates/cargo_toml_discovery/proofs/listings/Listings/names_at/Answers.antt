use Rattle.std.{proofs.Common.ap, proofs.Common.sym, proofs.Common.◌∙◌, specs.Option.option_map}
use Rattle.cargo_toml_discovery.{proofs.Lookups.answer_at-get, specs.Answers.texts_in}
use Rattle.cargo_toml_discovery.proofs.listings.Listings.names_at.Goals as goal

pub returns : goal.returns
returns c = ap (λ r. option_map texts_in r) c.get.ensures.value ∙ sym (answer_at-get c.args.path.now c.args.self.now)
