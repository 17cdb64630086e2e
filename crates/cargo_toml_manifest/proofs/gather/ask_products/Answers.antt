use Rattle.cargo_toml_manifest.proofs.Cited.{HasEach, List, Name, answers_of, below, err_from_is_err_and, names_in, rules, subst, true, ◌≡◌}
use Rattle.cargo_toml_manifest.proofs.Heard.{grows-on, has-grows, names_in-grows, has_products-here, is_answer-here, products-tells}
use Rattle.cargo_toml_manifest.proofs.gather.ask_products.Goals as goal

pub returns-clause-grows : goal.returns-clause-grows
returns-clause-grows g c =
    let told = g.Fs.AbstractFilesystem.names_at c.args.fs.now in
    grows-on told (answers_of c.args.listings.now) (answers_of c.ask.new.listings) (answers_of c.ask_each.new.listings)
    c.in_ok-ask.ensures.grows c.in_ok-ask_each.ensures.grows

pub returns-clause-has : goal.returns-clause-has
returns-clause-has g c =
    let told = g.Fs.AbstractFilesystem.names_at c.args.fs.now in
    let folder = c.args.folder.now in
    let b = answers_of c.ask.new.listings in
    let d = answers_of c.ask_each.new.listings in
    let wanted : c.args.is_wanted ≡ true = search rules in
    let grows = c.in_ok-ask_each.ensures.grows in
    let each = rw (c.as_slice.ensures.value, c.in_ok-paths.ensures) at c.in_ok-ask_each.ensures.has in
    let same = names_in-grows told b d folder grows c.in_ok-ask.ensures.has in
    has_products-here d c.args.is_wanted folder wanted (has-grows told b d folder grows c.in_ok-ask.ensures.has)
    (subst (λ (ns : List Name). HasEach d (below folder ns)) same each)

pub returns-in_err-ask_each-clause-faults : goal.returns-in_err-ask_each-clause-faults
returns-in_err-ask_each-clause-faults g c = λ fits.
    let told = g.Fs.AbstractFilesystem.names_at c.args.fs.now in
    let folder = c.args.folder.now in
    let b = answers_of c.ask.new.listings in
    let wanted : c.args.is_wanted ≡ true = search rules in
    let p = err_from_is_err_and c.from_residual-in_err-ask_each.result c.from_residual-in_err-ask_each.ensures.1 in
    let one = is_answer-here told b folder (c.in_ok-ask.ensures.grows.1 fits) c.in_ok-ask.ensures.has in
    let fault = rw (c.as_slice.ensures.value, c.in_ok-paths.ensures) at c.in_err-ask_each.ensures.faults in
    rw (p.1, p.2) (products-tells told c.args.is_wanted folder (names_in b folder) c.in_err-ask_each.field-0.0 wanted one fault)
