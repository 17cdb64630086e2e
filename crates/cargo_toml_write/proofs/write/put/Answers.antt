use Rattle.cargo_toml_write.proofs.{ReadAgain.members_view-insert, Writers.◌∙◌, Writers.ap, Writers.members_view, Writers.put_member, Writers.view}
use Rattle.cargo_toml_write.proofs.write.put.Goals as goal

pub returns-clause-ok : goal.returns-clause-ok
returns-clause-ok c =
    ap members_view c.in_ok-insert.ensures.entries
    ∙ members_view-insert c.args.table.now.entries c.in_ok-name.name c.args.value
    ∙ ap (λ k. put_member k (view c.args.value) (members_view c.args.table.now.entries)) c.in_ok-name.ensures.ok
