use Rattle.cargo_toml_features.proofs.Cited.{Bor, Text, always_returns_same, is_below, rules}
use Rattle.cargo_toml_features.proofs.ByPlace.{ascend_by_adjacent}
use Rattle.cargo_toml_features.proofs.texts.ascends.Goals as goal

pub returns : goal.returns
returns c = λ on. ascend_by_adjacent c.args.texts.now c.is_sorted_by.result
    (c.is_sorted_by.ensures.cases (λ (x y : Bor Text). is_below x.now y.now)
    (always_returns_same _ _ _ (λ a r f k. search rules))) on
