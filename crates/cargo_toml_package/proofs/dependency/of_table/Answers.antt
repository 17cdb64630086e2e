use Rattle.cargo_toml_package.proofs.Cited.{ap, blames, detailed, err_from_is_err_and, inherited, option_map, sym, table_view, ◌∙◌}
use Rattle.cargo_toml_package.proofs.Said.{said, unsaid}
use Rattle.cargo_toml_package.proofs.dependency.of_table.Goals as goal

pub returns-in_err-inherited_detail : goal.returns-in_err-inherited_detail
returns-in_err-inherited_detail c =
    let p = err_from_is_err_and c.from_residual.result c.from_residual.ensures.1 in
    let is = said (table_view c.args.table) (sym c.says_workspace.ensures ∙ c.if-says_workspace.true) in
    rw (p.1, p.2) (blames c.in_err-inherited_detail.ensures (λ none. is ∙ ap (option_map inherited) none) (λ fault. fault))

pub returns-then-says_workspace : goal.returns-then-says_workspace
returns-then-says_workspace c =
    said (table_view c.args.table) (sym c.says_workspace.ensures ∙ c.if-says_workspace.true) ∙ ap (option_map inherited) c.in_ok-inherited_detail.ensures

pub returns-in_err-boxed_detail : goal.returns-in_err-boxed_detail
returns-in_err-boxed_detail c =
    let p = err_from_is_err_and c.from_residual-in_err-boxed_detail.result c.from_residual-in_err-boxed_detail.ensures.1 in
    let is = unsaid (table_view c.args.table) (sym c.says_workspace.ensures ∙ c.if-says_workspace.false) in
    rw (p.1, p.2) (blames c.in_err-boxed_detail.ensures (λ none. is ∙ ap (option_map detailed) none) (λ fault. fault))

pub returns : goal.returns
returns c =
    unsaid (table_view c.args.table) (sym c.says_workspace.ensures ∙ c.if-says_workspace.false) ∙ ap (option_map detailed) c.in_ok-boxed_detail.ensures
