use Rattle.std.proofs.lemmas.Result.{MatchResult-weaker}
use Rattle.cargo_toml_parts.specs.Reads.{map_meaning}
use Rattle.cargo_toml_parts.specs.Lints.{lint_meaning}
use Rattle.cargo_toml_parts.proofs.SameLints.{lint_same, map_same}
use Rattle.cargo_toml_parts.proofs.lint.duplicate_lints.Goals as goal

pub returns : goal.returns
returns c = MatchResult-weaker c.clone.result c.clone.ensures.cases
    (λ copy h. map_same (map_meaning lint_meaning) _ (λ x y k. map_same lint_meaning _ lint_same x y k) c.args.groups.now copy h) (λ _ _. tt)
