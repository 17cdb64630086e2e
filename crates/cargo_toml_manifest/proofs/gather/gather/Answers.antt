use Rattle.cargo_toml_manifest.proofs.Cited.{Fits, Some, [], answer_at, answers_of, around, codes, texts_in, ◌≡◌}
use Rattle.cargo_toml_manifest.proofs.Heard.{tells-on, grows-on, has-grows, has_products-grows, started, has_root, all-told, by-root, by-src, by-bins, by-examples, by-tests, by-benches}
use Rattle.cargo_toml_manifest.proofs.{gather.gather.Given.Over, gather.gather.Goals.In_ok-ask}
use Rattle.cargo_toml_manifest.proofs.gather.gather.Goals as goal

-- after the folder of the package and `src`, what is kept is what was told
first : (g : Over) (c : In_ok-ask g) → Fits (g.Fs.AbstractFilesystem.names_at c.args.fs.now) (answers_of c.ask.new.listings)
    × (answer_at (answers_of c.ask.new.listings) [] ≡ Some (texts_in c.in_ok-root.root))
first g c =
    let told = g.Fs.AbstractFilesystem.names_at c.args.fs.now in
    let root = texts_in c.in_ok-root.root in
    let before = answers_of c.new-listings.result in
    let start = started told before (answers_of c.keep.new.self) root c.new-listings.ensures c.in_ok-keep.ensures.ok c.in_ok-root.ensures.listed in
    (c.in_ok-ask.ensures.grows.1 start.0, c.in_ok-ask.ensures.grows.0 [] root start.1)

pub returns-in_err-root-clause-faults : goal.returns-in_err-root-clause-faults
returns-in_err-root-clause-faults g c =
    let told = g.Fs.AbstractFilesystem.names_at c.args.fs.now in
    let wanted = c.args.wanted in
    tells-on _ (around told wanted) c.from_residual.result c.in_err-root.field-0.0
    c.from_residual.ensures.1 (by-root told wanted) c.in_err-root.ensures.listed

pub returns-in_err-ask-clause-faults : goal.returns-in_err-ask-clause-faults
returns-in_err-ask-clause-faults g c =
    let told = g.Fs.AbstractFilesystem.names_at c.args.fs.now in
    let wanted = c.args.wanted in
    tells-on _ (around told wanted) c.from_residual-in_err-ask.result
    c.in_err-ask.field-0.0 c.from_residual-in_err-ask.ensures.1
    (by-src told wanted) c.in_err-ask.ensures.faults

pub returns-in_err-ask_products-clause-faults : goal.returns-in_err-ask_products-clause-faults
returns-in_err-ask_products-clause-faults g c =
    let told = g.Fs.AbstractFilesystem.names_at c.args.fs.now in
    let wanted = c.args.wanted in
    let fits0 = (first g (goal.at.returns-in_err-ask_products-clause-faults g c).In_ok-ask).0 in
    tells-on _ (around told wanted) c.from_residual-in_err-ask_products.result
    c.in_err-ask_products.field-0.0 c.from_residual-in_err-ask_products.ensures.1
    (by-bins told wanted) (c.in_err-ask_products.ensures.faults fits0)

pub returns-in_err-ask_products-2-clause-faults : goal.returns-in_err-ask_products-2-clause-faults
returns-in_err-ask_products-2-clause-faults g c =
    let told = g.Fs.AbstractFilesystem.names_at c.args.fs.now in
    let wanted = c.args.wanted in
    let fits0 = (first g (goal.at.returns-in_err-ask_products-2-clause-faults g c).In_ok-ask).0 in
    let fits1 = c.in_ok-ask_products.ensures.grows.1 fits0 in
    tells-on _ (around told wanted) c.from_residual-in_err-ask_products-2.result
    c.in_err-ask_products-2.field-0.0 c.from_residual-in_err-ask_products-2.ensures.1
    (by-examples told wanted) (c.in_err-ask_products-2.ensures.faults fits1)

pub returns-in_err-ask_products-3-clause-faults : goal.returns-in_err-ask_products-3-clause-faults
returns-in_err-ask_products-3-clause-faults g c =
    let told = g.Fs.AbstractFilesystem.names_at c.args.fs.now in
    let wanted = c.args.wanted in
    let fits0 = (first g (goal.at.returns-in_err-ask_products-3-clause-faults g c).In_ok-ask).0 in
    let fits1 = c.in_ok-ask_products.ensures.grows.1 fits0 in
    let fits2 = c.in_ok-ask_products-2.ensures.grows.1 fits1 in
    tells-on _ (around told wanted) c.from_residual-in_err-ask_products-3.result
    c.in_err-ask_products-3.field-0.0 c.from_residual-in_err-ask_products-3.ensures.1
    (by-tests told wanted) (c.in_err-ask_products-3.ensures.faults fits2)

pub returns-in_err-ask_products-4-clause-faults : goal.returns-in_err-ask_products-4-clause-faults
returns-in_err-ask_products-4-clause-faults g c =
    let told = g.Fs.AbstractFilesystem.names_at c.args.fs.now in
    let wanted = c.args.wanted in
    let fits0 = (first g (goal.at.returns-in_err-ask_products-4-clause-faults g c).In_ok-ask).0 in
    let fits1 = c.in_ok-ask_products.ensures.grows.1 fits0 in
    let fits2 = c.in_ok-ask_products-2.ensures.grows.1 fits1 in
    let fits3 = c.in_ok-ask_products-3.ensures.grows.1 fits2 in
    tells-on _ (around told wanted) c.from_residual-in_err-ask_products-4.result
    c.in_err-ask_products-4.field-0.0 c.from_residual-in_err-ask_products-4.ensures.1
    (by-benches told wanted) (c.in_err-ask_products-4.ensures.faults fits3)

pub returns-clause-asked : goal.returns-clause-asked
returns-clause-asked g c =
    let told = g.Fs.AbstractFilesystem.names_at c.args.fs.now in
    let wanted = c.args.wanted in
    let root = texts_in c.in_ok-root.root in
    let start = first g (goal.at.returns-clause-asked g c).In_ok-ask in
    let a0 = answers_of c.ask.new.listings in
    let a1 = answers_of c.ask_products.new.listings in
    let a2 = answers_of c.ask_products-2.new.listings in
    let a3 = answers_of c.ask_products-3.new.listings in
    let a4 = answers_of c.ask_products-4.new.listings in
    let from3 = c.in_ok-ask_products-4.ensures.grows in
    let from2 = grows-on told a2 a3 a4 c.in_ok-ask_products-3.ensures.grows from3 in
    let from1 = grows-on told a1 a2 a4 c.in_ok-ask_products-2.ensures.grows from2 in
    let from0 = grows-on told a0 a1 a4 c.in_ok-ask_products.ensures.grows from1 in
    let src = has-grows told a0 a4 (codes "src") from0 c.in_ok-ask.ensures.has in
    let bins = has_products-grows told a1 a4 wanted.bins (codes "src/bin") from1 c.in_ok-ask_products.ensures.has in
    let examples = has_products-grows told a2 a4 wanted.examples (codes "examples") from2 c.in_ok-ask_products-2.ensures.has in
    let tests = has_products-grows told a3 a4 wanted.tests (codes "tests") from3 c.in_ok-ask_products-3.ensures.has in
    let benches = c.in_ok-ask_products-4.ensures.has in
    let root_is = has_root told a4 root (from0.0 [] root start.1) c.in_ok-root.ensures.listed in
    all-told told a4 wanted (from0.1 start.0) root_is (src, (bins, (examples, (tests, benches))))
