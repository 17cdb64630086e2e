use Rattle.std.proofs.lemmas.Result.{MatchResult-weaker}
use Rattle.cargo_toml_parts.proofs.SameCopies.{requirement_same}
use Rattle.cargo_toml_parts.proofs.duplicate.VersionReqDuplicate.duplicate.Goals as goal

pub returns : goal.returns
returns c = MatchResult-weaker c.clone.result c.clone.ensures.cases (λ p h. requirement_same c.args.self.now p h) (λ _ _. tt)
