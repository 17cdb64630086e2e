use Rattle.std.proofs.Common.{arith}
use Rattle.cargo_toml_parts.proofs.CopiedFields.{copied, ends, steady, surely}
use Rattle.cargo_toml_parts.proofs.badge.BadgesClone.clone.Goals as goal

pub returns : goal.returns
returns c = record {
  cases = ends _ _ _ _ _ _ c.new-copying.ensures c.finish.ensures (λ after. grind (arith, steady, copied)) (λ sure. grind (arith, surely));
}
