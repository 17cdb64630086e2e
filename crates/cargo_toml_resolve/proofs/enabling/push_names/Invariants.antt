use Rattle.{std.proofs.Common.length, cargo_toml_graph.specs.Reach.Among, cargo_toml_features.specs.Places.nth_text}
use Rattle.cargo_toml_resolve.{specs.Texts.texts_now, specs.Numbering.Gains, proofs.InOrder.seen}
use Rattle.cargo_toml_resolve.proofs.enabling.push_names.Given as goal

abbrev pub invariant-loop-name : goal.invariant-loop-name
invariant-loop-name l = Gains (length l.keys) l.own (λ x. Among (seen l.yielded) (nth_text (texts_now l.keys) x)) l.initial.row.items l.row.items
