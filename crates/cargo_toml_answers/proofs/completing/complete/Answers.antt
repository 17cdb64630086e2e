use Rattle.std.proofs.Common.{IfErr, IfOk, Option, ap, inl, inr, string_bytes, subst, ◌∙◌, ◌≡◌, ◌⊎◌}
use Rattle.std.proofs.lemmas.Result.{err_from_is_err_and}
use Rattle.std.specs.Prelude.{IsUtf8}
use Rattle.cargo_toml.specs.{Action.Text, Error.Error, Error.Memory}
use Rattle.cargo_toml_answers.specs.Answered.{IsRefusedFor, Reads}
use Rattle.cargo_toml_answers.specs.Archived.{CompletesTo, IsUncompleted, given}
use Rattle.cargo_toml_answers.specs.Refused.{IsRefusalFor, IsUnread}
use Rattle.cargo_toml_answers.proofs.Answering.{answered_err, answered_ok, argument_weaker, refusal_weaker}
use Rattle.cargo_toml_answers.proofs.completing.complete.Goals as goal

abbrev IsUncomplete : Text → Text → Text → Text → Error → Type 0
IsUncomplete text paths root root_path e = IsUnread root e ⊎ IsRefusedFor text (λ m e. (e ≡ Memory) ⊎ IsUncompleted paths (given root root_path) m e) e

pub returns-in_err-text-clause-refused : goal.returns-in_err-text-clause-refused
returns-in_err-text-clause-refused c =
    let p = err_from_is_err_and c.from_residual.result c.from_residual.ensures.1 in
    rw (p.1, p.2) (refusal_weaker _ _ _ _ _ (λ b. absurd b) (λ e why. inr (inl why)) c.in_err-text.ensures.refused)

pub returns-in_err-root-clause-refused : goal.returns-in_err-root-clause-refused
returns-in_err-root-clause-refused c =
    let p = err_from_is_err_and c.from_residual-in_err-root.result c.from_residual-in_err-root.ensures.1 in
    rw (p.1, p.2) (refusal_weaker _ _ _ _ _ (λ b. absurd b) (λ e why. inl why) c.in_err-root.ensures.refused)

pub returns-in_err-paths-clause-refused : goal.returns-in_err-paths-clause-refused
returns-in_err-paths-clause-refused c =
    let p = err_from_is_err_and c.from_residual-in_err-paths.result c.from_residual-in_err-paths.ensures.1 in
    rw (p.1, p.2) (argument_weaker _ _ (IsUncomplete c.args.text.now c.args.around.paths.now c.args.around.root.now c.args.around.root_path.now) _ (λ b. inl b) c.in_err-paths.ensures.refused)

pub returns-in_err-path-clause-refused : goal.returns-in_err-path-clause-refused
returns-in_err-path-clause-refused c =
    let p = err_from_is_err_and c.from_residual-in_err-path.result c.from_residual-in_err-path.ensures.1 in
    rw (p.1, p.2) (argument_weaker _ _ (IsUncomplete c.args.text.now c.args.around.paths.now c.args.around.root.now c.args.around.root_path.now) _ (λ b. inr b) c.in_err-path.ensures.refused)

pub returns-clause-completed : goal.returns-clause-completed
returns-clause-completed c =
    let around = c.args.around in
    let root = c.given.ensures ∙ ap (λ (r : Text). given r c.in_ok-path.path.now) c.in_ok-root.ensures.same ∙ ap (λ (p : Text). given around.root.now p) c.in_ok-path.ensures.same in
    subst (λ t. IfOk c.answered.result (λ json. Reads t (λ m. CompletesTo around.paths.now (given around.root.now around.root_path.now) m (string_bytes json)))) c.in_ok-text.ensures.same
    (subst (λ ps. IfOk c.answered.result (λ json. Reads c.in_ok-text.text.now (λ m. CompletesTo ps (given around.root.now around.root_path.now) m (string_bytes json)))) c.in_ok-paths.ensures.same
    (subst (λ w. IfOk c.answered.result (λ json. Reads c.in_ok-text.text.now (λ m. CompletesTo c.in_ok-paths.paths.now w m (string_bytes json)))) root
    (answered_ok _ _ _ c.answered.ensures c.completed.ensures.completed)))

pub returns-clause-refused : goal.returns-clause-refused
returns-clause-refused c =
    let around = c.args.around in
    let root = c.given.ensures ∙ ap (λ (r : Text). given r c.in_ok-path.path.now) c.in_ok-root.ensures.same ∙ ap (λ (p : Text). given around.root.now p) c.in_ok-path.ensures.same in
    let bad = (¬ IsUtf8 around.paths.now) ⊎ (¬ IsUtf8 around.root_path.now) in
    let why = λ (t ps : Text) (w : Option (Text × Text)). IfErr c.answered.result
    (IsRefusalFor bad (λ e. IsUnread around.root.now e ⊎ IsRefusedFor t (λ m e. (e ≡ Memory) ⊎ IsUncompleted ps w m e) e)) in
    subst (λ t. why t around.paths.now (given around.root.now around.root_path.now)) c.in_ok-text.ensures.same
    (subst (λ ps. why c.in_ok-text.text.now ps (given around.root.now around.root_path.now)) c.in_ok-paths.ensures.same
    (subst (λ w. why c.in_ok-text.text.now c.in_ok-paths.paths.now w) root
    (answered_err _ _ _ _ _ (λ e why. inr (inr why)) c.answered.ensures c.completed.ensures.refused)))
