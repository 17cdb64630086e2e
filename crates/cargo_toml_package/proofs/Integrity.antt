-- What a workspace lacks, as a fault.
use Rattle.cargo_toml_package.proofs.Cited.{Err, Error, Fault, Gives, NewFields, Ok, PackageMeaning, Result, String, WorkspaceIntegrity, any_field_left, ap, checked_package, codes, fault_of, fault_step, fold-roll-Error, installed_package, refl, result_and, rolls-WorkspaceIntegrity, string_bytes, sym, true, workspace_integrity, ◌++◌, ◌∙◌, ◌≡◌}
use Rattle.std.proofs.Common.{Global}

integrity : (s : String Global) → fault_of (WorkspaceIntegrity s) ≡ workspace_integrity (string_bytes s)
integrity s = ap fault_of (sym (rolls-WorkspaceIntegrity s)) ∙ fold-roll-Error Fault fault_step _

-- the fault of a package of which a field is left, by its text
pub refused : {M : Type 0} (p : PackageMeaning M) (s : String Global) → true ≡ any_field_left p → string_bytes s ≡ codes "not all fields of `" ++ p.name ++ codes "` have been present in workspace.package" → checked_package p ≡ Err (fault_of (WorkspaceIntegrity s))
refused p s left is = rw (← left, integrity s, is) refl

-- new values that leave nothing to the workspace, or the fault
pub given : {U M : Type 0} (p q : PackageMeaning M) (new : NewFields) (r : Result U Error) → installed_package p new ≡ q → Gives (λ _. installed_package p new) r (checked_package (installed_package p new)) → Gives (λ n. installed_package p n) (result_and r (Ok new)) (checked_package q)
given p q new (Ok _) is h = rw (← is) h
given p q new (Err e) is h = rw (← is) h
