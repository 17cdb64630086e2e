use Rattle.cargo_toml_write.proofs.Writers.{◌≡◌, false, is_put, is_some, rules, view}
use Rattle.cargo_toml_write.proofs.write.writing.Writing.required.Goals as goal

pub returns-in_default : goal.returns-in_default
returns-in_default g c =
    let no_fault : is_some c.args.self.now.fault ≡ false = search rules in
    is_put c.args.key.now g.T.ToValue.way (g.T.ToValue.meaning c.args.x.now) (view c.in-Ok.value) c.args.self.now.fault _ _
    no_fault c.in-Ok.ensures c.in_default.ensures.ok
