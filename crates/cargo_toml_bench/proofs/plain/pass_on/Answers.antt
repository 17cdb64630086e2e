use Rattle.cargo_toml_bench.proofs.Cited.{ap, bytes_eq, not, removed_text, ◌&&◌, ◌∙◌}
use Rattle.cargo_toml_bench.proofs.plain.pass_on.Goals as goal

pub returns-in_ok-add_all : goal.returns-in_ok-add_all
returns-in_ok-add_all c =
    rw c.if-is_so.true (λ x. removed_text c.args.key.now c.add_all.new.texts c.remove.new.self c.remove.ensures.updates x ∙ ap (λ t. t && not (bytes_eq x c.args.key.now)) (c.in_ok-add_all.ensures x))
