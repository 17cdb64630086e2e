use Rattle.cargo_toml_package.proofs.Cited.{IsShort, detail_meaning, inherited_meaning, rules}
use Rattle.cargo_toml_package.proofs.workspace_dependencies.entry.detail_with_entry.Goals as goal

pub returns-then-is_short : goal.returns-then-is_short
returns-then-is_short c =
    let short : IsShort (detail_meaning c.args.template.now) = c.is_short.ensures (search rules) in
    rw (short c.args.base.now (inherited_meaning c.args.entry.now)) c.short_with_entry.ensures
