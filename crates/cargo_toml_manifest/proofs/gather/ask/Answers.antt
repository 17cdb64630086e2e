use Rattle.cargo_toml_manifest.proofs.Cited.{answers_of, ap, is_some, is_some-seen, sym, texts_in, ◌∙◌}
use Rattle.cargo_toml_manifest.proofs.Heard.{grows-one}
use Rattle.cargo_toml_manifest.proofs.gather.ask.Goals as goal

pub returns-clause-grows : goal.returns-clause-grows
returns-clause-grows g c =
    let told = g.Fs.AbstractFilesystem.names_at c.args.fs.now in
    let old = answers_of c.args.listings.now in
    let new = answers_of c.keep.new.self in
    let none = is_some-seen c.names_at.result ∙ sym c.is_some.ensures ∙ c.if-is_some.false in
    let missing = ap is_some (sym c.names_at.ensures) ∙ none in
    grows-one told old new c.args.path.now (texts_in c.in_ok-names.names) missing c.in_ok-keep.ensures.ok c.in_ok-names.ensures.listed
