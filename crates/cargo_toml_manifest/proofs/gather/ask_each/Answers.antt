use Rattle.cargo_toml_manifest.proofs.Cited.{answers_of, arith, err_from_is_err_and, map, string_bytes, take}
use Rattle.cargo_toml_manifest.proofs.Heard.{tells-one, grows-on, has_each-grows, has_each-more}
use Rattle.cargo_toml_manifest.proofs.gather.ask_each.Goals as goal

pub returns-in_err-ask-clause-faults : goal.returns-in_err-ask-clause-faults
returns-in_err-ask-clause-faults g c =
    let told = g.Fs.AbstractFilesystem.names_at c.args.fs.now in
    let p = err_from_is_err_and c.from_residual.result c.from_residual.ensures.1 in
    let fault = rw c.as_str.ensures.value at c.in_err-ask.ensures.faults in
    let path = c.path-item.result in
    let told_by = tells-one told c.args.paths.now c.loop-path.path-index path path c.in_err-ask.field-0.0 in
    rw (p.1, p.2) (told_by (omega arith) c.path-item.is fault)

pub loop-path-preserved : goal.loop-path-preserved
loop-path-preserved g c =
    let told = g.Fs.AbstractFilesystem.names_at c.args.fs.now in
    let paths = c.args.paths.now in
    let i = c.loop-path.path-index in
    let a = answers_of c.args.listings.now in
    let b = answers_of c.loop-path.listings in
    let d = answers_of c.ask.new.listings in
    let grows = c.in_ok-ask.ensures.grows in
    let before = has_each-grows told b d (map string_bytes (take i paths)) grows c.loop-path.invariant.has in
    let one = rw c.as_str.ensures.value at c.in_ok-ask.ensures.has in
    record {
      grows = grows-on told a b d c.loop-path.invariant.grows grows;
      has = has_each-more d paths i c.path-item.result (omega arith) c.path-item.is before one;
    }
