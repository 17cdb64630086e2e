-- Which faults are of what was read, and which of input, output or memory.
use Rattle.cargo_toml_parts.specs.declared.error.Error.{Error, out-Error}
use Rattle.cargo_toml_parts.specs.declared.error.Error.TheOpen.{Error-F}

-- the fault is neither of input or output nor `Memory`, so that it is one of what was read
abbrev pub IsOfManifest : Error → Type 0
IsOfManifest e =
    elim (out-Error e) as (λ _. Type 0) [ Error-F.Io f ↦ ⊥ | Error-F.Memory ↦ ⊥ | _ ↦ Unit {0} ]

-- the fault is one of input or output, or `Memory`
abbrev pub IsOfOutput : Error → Type 0
IsOfOutput e =
    elim (out-Error e) as (λ _. Type 0)
    [ Error-F.Io f ↦ Unit {0} | Error-F.Memory ↦ Unit {0} | _ ↦ ⊥ ]
