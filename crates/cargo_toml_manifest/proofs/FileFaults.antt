-- Of which kinds the faults are that stand in place of a root among real files.
use Rattle.cargo_toml_manifest.proofs.Cited.{Err, Error, Error-F, Fault, Global, Io, IsFromIo, IsFromSlice, IsNoWorkspace, IsRootFault, List, Memory, NotFound, Some, String, WorkspaceIntegrity, ap, error_kind, expected_workspace, fault_of, fault_of-io, fault_step, fold-roll-Error, from_input, has_memory, inl, inr, io, refl, rolls-WorkspaceIntegrity, string_bytes, sym, workspace_integrity, wrap, ℕ, ◌∙◌, ◌≡◌, ◌⊎◌}
use Rattle.cargo_toml_manifest.proofs.Rooted.{IsWrapped, stays_memory}
use Rattle.std.specs.declared.io.Error.{Error as IoError}

-- that nothing was found
pub nothing_found : (f : IoError) → error_kind f ≡ NotFound → IsRootFault (fault_of (Io f))
nothing_found f kind = inl (NotFound, (has_memory, fault_of-io f ∙ ap io kind))

-- a fault of reading
pub unread : (f : IoError) (e : Error) → IsFromIo f e → (e ≡ Memory) ⊎ IsRootFault (fault_of e)
unread f e from = elim (from_input f e from) [ inl memory ↦ inl memory | inr input ↦ inr (inl input) ]

-- the same, with the path of the file
pub unread_at : (file : List ℕ) (f : IoError) (own e : Error) → IsFromIo f own → IsWrapped (Some file) own e → (e ≡ Memory) ⊎ IsRootFault (fault_of e)
unread_at file f own e (inl h) wrapped = inl (stays_memory (Some file) own e h.1 wrapped)
unread_at file f own e (inr h) (inl memory) = inl memory
unread_at file f own e (inr h) (inr same) =
    inr (inr (inl (file, (error_kind f, (h.0, same ∙ ap (wrap (Some file)) (ap fault_of h.1 ∙ fault_of-io f))))))

-- a fault of the bytes
pub no_manifest : (bytes : List ℕ) (e : Error) → (e ≡ Memory) ⊎ IsFromSlice bytes (Err e) → (e ≡ Memory) ⊎ IsNoWorkspace (fault_of e)
no_manifest bytes e (inl memory) = inl memory
no_manifest bytes e (inr own) = inr (inl (bytes, (e, (own, refl))))

pub no_table : (path : List ℕ) (text : String Global) → string_bytes text ≡ expected_workspace path → IsNoWorkspace (fault_of (WorkspaceIntegrity text))
no_table path text same =
    inr (path, ap fault_of (sym (rolls-WorkspaceIntegrity text)) ∙ fold-roll-Error Fault fault_step (Error-F.WorkspaceIntegrity text) ∙ ap workspace_integrity same)

-- is one in place of the root
pub no_root : (e : Error) → (e ≡ Memory) ⊎ IsNoWorkspace (fault_of e) → (e ≡ Memory) ⊎ IsRootFault (fault_of e)
no_root e (inl memory) = inl memory
no_root e (inr none) = inr (inr (inr none))
