use Rattle.cargo_toml_resolve.proofs.Cited.{YieldsList-from_slice, YieldsList-from_zip, any_from_yields_List, length, nat_eq, not, rules, sym, tests, ◌&&◌, ◌∙◌}
use Rattle.cargo_toml_resolve.proofs.BinTurns.{none_had}
use Rattle.cargo_toml_resolve.proofs.passing.have_bins.Goals as goal

pub returns : goal.returns
returns c = λ off. none_had c.args.features.now c.args.flags.now c.requires
    (sym (any_from_yields_List (λ p. p.1 && not (nat_eq (length p.0.required_by_bins.items) 0)) c.any.new.self _ _ c.any.ensures.ran
    (YieldsList-from_zip (YieldsList-from_slice c.args.features.now cc) (YieldsList-from_slice c.args.flags.now cc)) (λ x b q k. search (rules, tests))) ∙ off)
