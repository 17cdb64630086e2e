use Rattle.std.proofs.Common.{ap, ◌∙◌, List, [], Option, unwrap_or}
use Rattle.cargo_toml_discovery.{proofs.Unique.has-set, specs.Names.Name, specs.Names.has_text}
use Rattle.cargo_toml_discovery.proofs.listings.Listings.has.Goals as goal

pub returns-in-Some : goal.returns-in-Some
returns-in-Some c = c.contains.ensures ∙ has-set c.args.name.now c.in-Some.names.now ∙ ap (λ (r : Option (List Name)). has_text (unwrap_or r []) c.args.name.now) c.in-Some.ensures
