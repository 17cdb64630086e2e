use Rattle.cargo_toml_program.proofs.Cited.{err_from_is_err_and, inr, some_from}
use Rattle.cargo_toml_program.proofs.files.completed_lines.Goals as goal

pub returns-clause-lines : goal.returns-clause-lines
returns-clause-lines g c = λ spelled. (c.args.manifest.now, spelled, c.complete_from_path.new.manifest, c.in_ok-complete_from_path.ensures.completed, c.in_ok-completion_lines.ensures)

pub returns-clause-named : goal.returns-clause-named
returns-clause-named g c = some_from _ c.in_ok-complete_from_path.ensures.bad_path

pub returns-in_err-complete_from_path-clause-refused : goal.returns-in_err-complete_from_path-clause-refused
returns-in_err-complete_from_path-clause-refused g c =
    let p = err_from_is_err_and c.from_residual.result c.from_residual.ensures.1 in
    λ spelled. rw (p.1, p.2) (inr (inr (spelled.0, (spelled.1, inr (spelled.2, inr (c.args.manifest.now, (spelled.3, c.in_err-complete_from_path.ensures.refused)))))))
