-- Why an audit ends before it has found all places, and how that is told.
use Rattle.std.specs.Prelude.{◌≡◌, ◌⊎◌, ℕ, codes}
use Rattle.cargo_toml.specs.Error.{Error, Memory as OutOfMemory}
use Rattle.cargo_toml.specs.{Faults.IsOther}
use Rattle.cargo_toml_audit.specs.declared.limits.LookError.TheVariants.{Memory, TooFar}
use Rattle.cargo_toml_audit.specs.declared.limits.LookError.{LookError}

-- with so many steps left: no memory, or too many places, and then no step is left
abbrev pub IsLookFault : ℕ → LookError → Type 0
IsLookFault left e = (e ≡ Memory) ⊎ ((e ≡ TooFar) × (left ≡ 0))

abbrev pub IsTooMany : Error → Type 0
IsTooMany e = IsOther (codes "there are too many places") e

-- the fault of a report that this is
abbrev pub IsToldAs : LookError → Error → Type 0
IsToldAs TooFar e = IsTooMany e
IsToldAs Memory e = e ≡ OutOfMemory
