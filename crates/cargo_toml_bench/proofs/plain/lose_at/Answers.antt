use Rattle.{std.specs.Option.option_copied_mut, cargo_toml_bench.proofs.Taken.changed_at, cargo_toml_bench.specs.Removing.Loses}
use Rattle.std.proofs.Common.{◌∙◌, ap, sym}
use Rattle.cargo_toml_bench.proofs.plain.lose_at.Goals as goal

pub returns-in_ok-lose : goal.returns-in_ok-lose
returns-in_ok-lose g c =
    changed_at (Loses c.args.gone.now c.args.key.now c.args.name.now) c.args.name.now c.args.features.now (c.get_mut.follows.lender c.lose.new.feature) c.in-Some.feature.now c.lose.new.feature
    (sym c.get_mut.ensures.value ∙ ap option_copied_mut c.in-Some.is) (c.get_mut.follows.holds c.lose.new.feature).3 c.in_ok-lose.ensures
