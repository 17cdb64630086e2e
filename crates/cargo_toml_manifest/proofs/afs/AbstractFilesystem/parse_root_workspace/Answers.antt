use Rattle.cargo_toml_manifest.proofs.Cited.{heard, option_copied, sym, ◌∙◌}
use Rattle.cargo_toml_manifest.proofs.Rooted.{found_there, heard_found, lost_at, lost_unread, root_as_told, unread_as_told}
use Rattle.cargo_toml_manifest.proofs.afs.AbstractFilesystem.parse_root_workspace.Goals as goal

pub returns-in-Ok-clause-answers : goal.returns-in-Ok-clause-answers
returns-in-Ok-clause-answers g c =
    let stated = g.Self.AbstractFilesystem.root_for c.args.self.now (option_copied c.args.hint) in
    let both = sym c.parses_alone.ensures ∙ c.if-parses_alone.false in
    heard_found g.Self.Roots.Roots.ARE_READ g.Self.Roots.Roots.ARE_FOUND stated c.root_at.result both
    (root_as_told (heard g.Self.Roots.Roots.ARE_READ stated) (c.in-Ok.bytes, c.in-Ok.path) c.root_at.result c.in-Ok.ensures.answers c.root_at.ensures)

pub returns-in-Ok-clause-found : goal.returns-in-Ok-clause-found
returns-in-Ok-clause-found g c =
    found_there (g.Self.AbstractFilesystem.may_find c.args.self.now (option_copied c.args.hint)) (c.in-Ok.bytes, c.in-Ok.path)
    c.root_at.result c.in-Ok.ensures.found c.root_at.ensures

pub returns-in-Ok-clause-refused : goal.returns-in-Ok-clause-refused
returns-in-Ok-clause-refused g c =
    lost_at g.Self.Roots.Roots.ARE_READ g.Self.Roots.Roots.ARE_FOUND (g.Self.AbstractFilesystem.may_refuse_root c.args.self.now) (option_copied c.args.hint)
    (c.in-Ok.bytes, c.in-Ok.path) c.root_at.result c.in-Ok.ensures.refused c.root_at.ensures

pub returns-in-Err-clause-answers : goal.returns-in-Err-clause-answers
returns-in-Err-clause-answers g c =
    let stated = g.Self.AbstractFilesystem.root_for c.args.self.now (option_copied c.args.hint) in
    let both = sym c.parses_alone.ensures ∙ c.if-parses_alone.false in
    heard_found g.Self.Roots.Roots.ARE_READ g.Self.Roots.Roots.ARE_FOUND stated _ both
    (unread_as_told (heard g.Self.Roots.Roots.ARE_READ stated) (option_copied c.args.hint) c.in-Err.fault c.wrapped.result c.in-Err.ensures.answers c.wrapped.ensures)

pub returns-in-Err-clause-refused : goal.returns-in-Err-clause-refused
returns-in-Err-clause-refused g c =
    let both = sym c.parses_alone.ensures ∙ c.if-parses_alone.false in
    lost_unread g.Self.Roots.Roots.ARE_READ g.Self.Roots.Roots.ARE_FOUND (g.Self.AbstractFilesystem.may_refuse_root c.args.self.now) (option_copied c.args.hint)
    c.in-Err.fault c.wrapped.result both c.in-Err.ensures.refused c.wrapped.ensures
