use Rattle.cargo_toml_manifest.proofs.Cited.{Fault, Gives, ManifestMeaning, None, Result, Some, [], handed_of, held, installed, needs, refl, shared_of, subst, sym, workspace_folder, ◌∙◌}
use Rattle.cargo_toml_manifest.proofs.Meeting.{Found, no_table, own_alone, own_by_table}
use Rattle.cargo_toml_manifest.proofs.{Answering.answered_as, Answering.root_answered, Answering.root_lost, Lasting.nothing_left}
use Rattle.cargo_toml_manifest.proofs.complete.completion_for.Goals as goal

pub returns-in-Some : goal.returns-in-Some
returns-in-Some g c =
    let handed = handed_of (c.in-Some.root, c.in-Some.path) in
    rw c.in-Some.is
    (answered_as _ _ _ _ (Some handed) _ _ _ _ refl (c.completion.ensures (Some handed) refl c.parts_from-parts.ensures))

pub returns-then-is_some : goal.returns-then-is_some
returns-then-is_some g c =
    let own = c.args.manifest.now.workspace in
    let there = sym c.is_some.ensures ∙ c.if-is_some.true in
    rw c.in_default.is
    (answered_as _ _ _ _ None _ _ _ _ (own_by_table own (needs (held c.args.manifest.now)) _ there)
    (c.completion-then-is_some.ensures (Some (shared_of own, [])) refl c.parts_from-parts-then-is_some.ensures))

pub returns-then-not-needs_workspace_inheritance : goal.returns-then-not-needs_workspace_inheritance
returns-then-not-needs_workspace_inheritance g c =
    let m = held c.args.manifest.now in
    let none = no_table c.args.manifest.now.workspace (sym c.is_some.ensures ∙ c.if-is_some.false) in
    let needed = sym c.needs_workspace_inheritance.ensures ∙ c.if-not-needs_workspace_inheritance.true in
    let taken = subst (λ (r : Result (ManifestMeaning _) Fault). Gives (installed m) c.parts_from-parts-then-not-needs_workspace_inheritance.result r)
    (nothing_left (shared_of c.args.manifest.now.workspace) (workspace_folder []) m needed) c.parts_from-parts-then-not-needs_workspace_inheritance.ensures in
    rw c.in_default.is
    (answered_as _ _ _ _ None _ _ _ _ (own_alone _ (needs m) _ none needed) (c.completion-then-not-needs_workspace_inheritance.ensures None refl taken))

pub returns-in-Ok : goal.returns-in-Ok
returns-in-Ok g c =
    let none = no_table c.args.manifest.now.workspace (sym c.is_some.ensures ∙ c.if-is_some.false) in
    let needed = sym c.needs_workspace_inheritance.ensures ∙ c.if-not-needs_workspace_inheritance.false in
    let x : Found = (c.in-Ok.root, c.in-Ok.path) in
    let a = rw c.hint_of-hint.ensures at c.in-Ok.ensures.answers in
    let there = rw c.hint_of-hint.ensures at c.in-Ok.ensures.found in
    let at = c.as_str-at.result.now in
    let made = rw c.as_str-at.ensures.value at (c.completion-in-Ok.ensures (Some (shared_of c.in-Ok.root.workspace, at)) refl c.parts_from-parts-in-Ok.ensures) in
    rw c.in_default.is (root_answered _ _ _ _ _ _ none needed x c.completion-in-Ok.result a there made)

pub returns-in-Err : goal.returns-in-Err
returns-in-Err g c =
    let none = no_table c.args.manifest.now.workspace (sym c.is_some.ensures ∙ c.if-is_some.false) in
    let needed = sym c.needs_workspace_inheritance.ensures ∙ c.if-not-needs_workspace_inheritance.false in
    let a = rw c.hint_of-hint.ensures at c.in-Err.ensures.answers in
    let r = rw c.hint_of-hint.ensures at c.in-Err.ensures.refused in
    let w = rw c.hint_of-hint.ensures at c.wrapped.ensures in
    rw c.in_default.is (root_lost _ _ _ _ _ _ none needed c.in-Err.fault c.wrapped.result r w a)
