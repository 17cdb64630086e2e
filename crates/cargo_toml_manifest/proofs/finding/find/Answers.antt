use Rattle.cargo_toml_manifest.proofs.Cited.{[], answers_of, ap, err_from_is_err_and, filled, held, option_map, package_meaning}
use Rattle.cargo_toml_manifest.proofs.FoundAround.{found_nothing, parts_faults, parts_seen}
use Rattle.cargo_toml_manifest.proofs.finding.find.Goals as goal

pub returns-in_default-clause-answered : goal.returns-in_default-clause-answered
returns-in_default-clause-answered g c =
    let m = held c.args.manifest.now in
    let none = ap (option_map (package_meaning (λ m. m))) c.in_default.is in
    ([], found_nothing m c.args.parts.now none (filled (g.Fs.AbstractFilesystem.names_at c.args.fs.now) []))

pub returns-in_err-listings-clause-faults : goal.returns-in_err-listings-clause-faults
returns-in_err-listings-clause-faults g c =
    let m = held c.args.manifest.now in
    let p = package_meaning (λ m. m) c.in-Some.package in
    let is = ap (option_map (package_meaning (λ m. m))) c.in-Some.is in
    let r = err_from_is_err_and c.from_residual.result c.from_residual.ensures.1 in
    rw (r.1, r.2)
    (parts_faults m p c.args.parts.now is c.wanted.result c.wanted.ensures (g.Fs.AbstractFilesystem.names_at c.args.fs.now)
    c.in_err-listings.field-0.0 c.in_err-listings.ensures.faults)

pub returns-clause-answered : goal.returns-clause-answered
returns-clause-answered g c =
    let m = held c.args.manifest.now in
    let p = package_meaning (λ m. m) c.in-Some.package in
    let is = ap (option_map (package_meaning (λ m. m))) c.in-Some.is in
    let answers = answers_of c.in_ok-listings.listings in
    let found = rw c.as_ref.ensures.value at c.in_ok-found.ensures in (
      answers,
      parts_seen m p c.args.parts.now is c.wanted.result c.wanted.ensures (g.Fs.AbstractFilesystem.names_at c.args.fs.now)
          answers c.in_ok-found.found c.in_ok-listings.ensures.asked found,
    )
