use Rattle.{std.proofs.Common.ap, std.proofs.Common.◌∙◌, cargo_toml_resolve.proofs.Steps.marks_at, cargo_toml_resolve.proofs.Steps.none_at_first}
use Rattle.cargo_toml_resolve.proofs.marks.Marks.new.Goals as goal

pub returns : goal.returns
returns c = ap (marks_at 1) (c.in_ok-stamps.ensures.items_if_clones_equal (λ y e. e)) ∙ none_at_first c.args.count
