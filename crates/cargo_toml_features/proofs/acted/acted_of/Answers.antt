use Rattle.cargo_toml_features.proofs.Cited.{arith, common_steps, list_any-append, or-false}
use Rattle.cargo_toml_features.proofs.Making.{items_more}
use Rattle.cargo_toml_features.proofs.acted.acted_of.Goals as goal

pub loop-item-preserved : goal.loop-item-preserved
loop-item-preserved c = record {
  keys = λ k. grind (arith, common_steps, items_more, list_any-append, or-false);
  reserved = λ k. grind (arith, common_steps, items_more, list_any-append, or-false);
}
