use Rattle.std.proofs.Common.{Bor, Option, inl, inr, option_map, string_bytes, ◌≡◌, ◌⊎◌}
use Rattle.std.proofs.lemmas.Result.{IfErr-weaker, IfOk-weaker, err_from_is_err_and}
use Rattle.cargo_toml.specs.{Action.Text, Error.Memory}
use Rattle.cargo_toml_answers.specs.Answered.{IsRefusedText, Reads}
use Rattle.cargo_toml_answers.specs.Archived.{CompletesTo, IsUncompleted}
use Rattle.cargo_toml_answers.proofs.Answering.{meets_err}
use Rattle.cargo_toml_answers.proofs.completing.completed.Goals as goal

abbrev texts : Option (Bor Text × Bor Text) → Option (Text × Text)
texts root = option_map (λ r. (r.0.now, r.1.now)) root

pub returns-in_err-held-clause-refused : goal.returns-in_err-held-clause-refused
returns-in_err-held-clause-refused c =
    let p = err_from_is_err_and c.from_residual.result c.from_residual.ensures.1 in
    rw (p.1, p.2) (inl c.in_err-held.ensures.refused)

pub returns-in_err-archive-clause-refused : goal.returns-in_err-archive-clause-refused
returns-in_err-archive-clause-refused c =
    let p = err_from_is_err_and c.from_residual-in_err-archive.result c.from_residual-in_err-archive.ensures.1 in
    rw p.1 (inr (record { manifest = c.in_ok-held.held.manifest.value; written = c.in_ok-held.ensures.read; exact = inl p.2 }))

pub returns-in_err-complete_from_abstract_filesystem-clause-refused : goal.returns-in_err-complete_from_abstract_filesystem-clause-refused
returns-in_err-complete_from_abstract_filesystem-clause-refused c =
    let p = err_from_is_err_and c.from_residual-in_err-complete_from_abstract_filesystem.result c.from_residual-in_err-complete_from_abstract_filesystem.ensures.1 in
    rw (p.1, p.2) (inr (record {
      manifest = c.deref_mut-manifest.result.now;
      written = rw c.deref_mut-manifest.ensures.value c.in_ok-held.ensures.read;
      exact = inr (record {
        files = c.in_ok-archive.archive.files;
        listed = c.in_ok-archive.ensures.files;
        refused = inl (rw (← c.in_ok-archive.ensures.root) (meets_err _ _ _ _ c.in_err-complete_from_abstract_filesystem.ensures.outcome));
      });
    }))

pub returns-clause-completed : goal.returns-clause-completed
returns-clause-completed c =
    IfOk-weaker c.shown.result _ (λ json. Reads c.args.text.now (λ m. CompletesTo c.args.paths.now (texts c.args.root) m (string_bytes json)))
    (λ json shown. record {
      manifest = c.deref_mut-manifest.result.now;
      written = rw c.deref_mut-manifest.ensures.value c.in_ok-held.ensures.read;
      exact = record {
        files = c.in_ok-archive.archive.files;
        listed = c.in_ok-archive.ensures.files;
        new = c.complete_from_abstract_filesystem.new.self;
        completed = rw (← c.in_ok-archive.ensures.root) c.in_ok-complete_from_abstract_filesystem.ensures.completed;
        exact = shown;
      };
    }) c.shown.ensures.shown

pub returns-clause-refused : goal.returns-clause-refused
returns-clause-refused c =
    IfErr-weaker c.shown.result _ (IsRefusedText c.args.text.now (λ m e. (e ≡ Memory) ⊎ IsUncompleted c.args.paths.now (texts c.args.root) m e))
    (λ e unshown. inr (record {
      manifest = c.deref_mut-manifest.result.now;
      written = rw c.deref_mut-manifest.ensures.value c.in_ok-held.ensures.read;
      exact = inr (record {
        files = c.in_ok-archive.archive.files;
        listed = c.in_ok-archive.ensures.files;
        refused = inr (c.complete_from_abstract_filesystem.new.self, (rw (← c.in_ok-archive.ensures.root) c.in_ok-complete_from_abstract_filesystem.ensures.completed, unshown));
      });
    })) c.shown.ensures.refused
