use Rattle.cargo_toml_manifest.proofs.Cited.{GivenBy, ManifestMeaning, RootsTold, err_from_is_err_and, filled, handed_of, held, option_map, refl, roots_of, subst, sym}
use Rattle.cargo_toml_manifest.proofs.{Answering.met_given, Answering.met_refused, Answering.refused_by, Lasting.complete_done, Lasting.known, Lasting.complete_lasts, Meeting.given_again, Meeting.put_in}
use Rattle.cargo_toml_manifest.proofs.manifest.Manifest.complete_from_abstract_filesystem.Goals as goal

pub returns-in_err-parts-clause-outcome : goal.returns-in_err-parts-clause-outcome
returns-in_err-parts-clause-outcome g c =
    let p = err_from_is_err_and c.from_residual.result c.from_residual.ensures.1 in
    rw (p.1, p.2) (met_refused _ _ _ _ _ _ _ _ _ c.in_err-parts.ensures)

pub returns-in_err-parts-clause-wrapped : goal.returns-in_err-parts-clause-wrapped
returns-in_err-parts-clause-wrapped g c =
    let p = err_from_is_err_and c.from_residual.result c.from_residual.ensures.1 in
    rw (p.1, p.2) (refused_by _ _ _ _ _ _ _ _ c.in_err-parts.ensures)

pub returns-clause-completed : goal.returns-clause-completed
returns-clause-completed g c =
    let m = held c.args.self.now in
    let n = held c.put_found.new.manifest in
    let handed = option_map handed_of c.args.workspace in
    let roots : RootsTold = roots_of g.Fs.Roots.Roots.ARE_FOUND (g.Fs.AbstractFilesystem.root_for c.args.fs) in
    let found = g.Fs.AbstractFilesystem.may_find c.args.fs in
    let told = g.Fs.AbstractFilesystem.names_at c.args.fs in
    let put = put_in m _ _ c.in_ok-parts.field-0 c.install_parts.ensures c.put_found.ensures in
    let made = c.in_ok-parts.ensures in
    let by = subst (λ (x : ManifestMeaning _). GivenBy m handed roots found told x) (sym put) (made.answer, made.known, made.answered.given) in
    let none = complete_done m n handed (λ _. by.0) (filled told by.2.0) by.2.1 in
    record {
      outcome = met_given m told handed roots found held c.put_found.new.manifest by;
      given = by;
      needs_nothing = none;
      filled = known c.put_found.new.manifest none;
      again = complete_lasts m handed n;
    }

pub returns-clause-outcome : goal.returns-clause-outcome
returns-clause-outcome g c = given_again held _ _ c.put_found.new.manifest _ refl (returns-clause-completed g c).outcome
