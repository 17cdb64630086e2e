use Rattle.std.proofs.Common.{ap, drop, ◌++◌, ◌∙◌}
use Rattle.cargo_toml_c.proofs.Handing.{fits}
use Rattle.cargo_toml_c.proofs.hand_out.Goals as goal

pub returns-clause-buffer : goal.returns-clause-buffer
returns-clause-buffer c =
    let count = c.min-count.result in
    let old = c.args.out.now in
    ap (λ ts. ts ++ drop count old) c.copy_from_slice.ensures.after ∙ fits c.args.answer.now old count c.min-count.ensures
