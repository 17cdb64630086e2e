use Rattle.cargo_toml_tools.proofs.Cited.{IfOk, left_name, option_copied, string_bytes, subst, sym, ◌≡◌}
use Rattle.cargo_toml_tools.proofs.files.alone.name_of.Goals as goal

pub returns-in-Some : goal.returns-in-Some
returns-in-Some c =
    subst (λ t. IfOk c.format.result (λ name. string_bytes name ≡ left_name (option_copied t, (c.args.left.table.now, c.args.left.key.now))))
    (sym c.in-Some.is) c.format.ensures.ok

pub returns-in-None : goal.returns-in-None
returns-in-None c =
    subst (λ t. IfOk c.format-in-None.result (λ name. string_bytes name ≡ left_name (option_copied t, (c.args.left.table.now, c.args.left.key.now))))
    (sym c.in-None.is) c.format-in-None.ensures.ok
