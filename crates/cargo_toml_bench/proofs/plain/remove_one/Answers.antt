use Rattle.{std.proofs.Common.◌∙◌, std.proofs.Common.sym, cargo_toml_bench.proofs.Taken.redirected, cargo_toml_bench.proofs.Taken.taken_out}
use Rattle.cargo_toml_bench.proofs.plain.remove_one.Goals as goal

pub returns-in_ok-insert : goal.returns-in_ok-insert
returns-in_ok-insert g c = λ there names.
    let was = sym c.remove.ensures.value ∙ c.in-Some.is in
    let changes = c.in_ok-lose_all.ensures names.once in (
      taken_out c.args.key.now _ c.args.features.now c.remove.new.self c.lose_all.new.features names.all c.in-Some.gone was c.remove.ensures.updates changes,
      redirected c.args.key.now _ c.args.features.now c.remove.new.self c.lose_all.new.features names.all c.in-Some.gone was c.remove.ensures.updates changes
          c.into_names.result c.into_names.ensures c.args.hidden.now c.insert.new.self c.in_ok-insert.ensures.updates,
    )
