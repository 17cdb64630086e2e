use Rattle.std.proofs.Common.{◌∙◌, refl, sym}
use Rattle.cargo_toml_parts.proofs.Words.{and_then, own_of}
use Rattle.cargo_toml_parts.proofs.error.ErrorDisplay.+fmt.Goals as goal
use Rattle.cargo_toml_parts.specs.declared.error.Error.TheOpen.{Error-F}
use Rattle.cargo_toml_parts.specs.declared.error.Error.TheVariants.{rolls-Workspace}

pub returns-in_ok-write_before-in-Workspace-clause-words :
    goal.returns-in_ok-write_before-in-Workspace-clause-words
returns-in_ok-write_before-in-Workspace-clause-words g t c =
    and_then _ _ _ _ _ _ _ _
    (rw (c.deref.ensures, c.deref-in-Workspace.ensures)
    (own_of c.args.self.now (Error-F.Workspace c.in-Workspace.inner) (c.in-Workspace.is ∙ sym (rolls-Workspace _))))
    (λ plain. c.in_ok-write_before-in-Workspace.ensures plain refl)
    c.fmt-in-Workspace.ensures.words
