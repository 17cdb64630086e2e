-- Of which kinds the faults are that stand in place of a root.
use Rattle.std.proofs.Common.{◌≡◌, ◌⊎◌, inl, inr}
use Rattle.cargo_toml_manifest.proofs.FileFaults.{no_root}
use Rattle.cargo_toml_manifest.specs.RealFiles.{IsNoWorkspace, IsRootFault}
use Rattle.cargo_toml_parts.specs.FaultValues.{fault_of}
use Rattle.cargo_toml_parts.specs.declared.error.Error.{Error, Memory}
use Rattle.cargo_toml_shallow.specs.Deep.{IsNoShallowWorkspace, IsShallowRootFault}

-- what may stand there otherwise
pub as_ever : (e : Error) → (e ≡ Memory) ⊎ IsRootFault (fault_of e) → (e ≡ Memory) ⊎ IsShallowRootFault (fault_of e)
as_ever e (inl memory) = inl memory
as_ever e (inr fault) = inr (inr fault)

-- what the bytes of a file may be refused for otherwise
pub no_workspace : (e : Error) → (e ≡ Memory) ⊎ IsNoWorkspace (fault_of e) → (e ≡ Memory) ⊎ IsNoShallowWorkspace (fault_of e)
no_workspace e (inl memory) = inl memory
no_workspace e (inr fault) = inr (inr fault)

-- is one in place of the root
pub no_shallow_root : (e : Error) → (e ≡ Memory) ⊎ IsNoShallowWorkspace (fault_of e) → (e ≡ Memory) ⊎ IsShallowRootFault (fault_of e)
no_shallow_root e (inl memory) = inl memory
no_shallow_root e (inr (inl deep)) = inr (inl deep)
no_shallow_root e (inr (inr none)) = as_ever e (no_root e (inr none))
