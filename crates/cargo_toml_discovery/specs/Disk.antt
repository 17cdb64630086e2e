-- Folders on the disk: where they are, and what faults they give.
use Rattle.std.specs.Prelude.{◌≡◌, ◌⊎◌, ℕ, List, codes, length, ◌==◌, if◌then◌else◌}
use Rattle.std.specs.{IoError.error_kind, declared.io.ErrorKind.ErrorKind}
use Rattle.std.specs.declared.io.Error.{Error as IoError}
use Rattle.std.specs.declared.io.ErrorKind.TheVariants.{NotFound, NotADirectory, OutOfMemory, Other}
use Rattle.cargo_toml_parts.specs.declared.error.Error.{Error}
use Rattle.cargo_toml_parts.specs.Faults.{IsFromIo}
use Rattle.cargo_toml_parts.specs.FaultValues.{Fault, fault_of, io}

-- the empty path is the folder that the program runs in
abbrev pub or_here : List ℕ → List ℕ
or_here path = if length path == 0 then codes "." else path

-- what a fault of listing a folder becomes: a name that is no folder counts as absent
abbrev pub IsListingFault : IoError → Error → Type 0
IsListingFault fault e =
    ((error_kind fault ≡ NotADirectory) × (fault_of e ≡ io NotFound))
    ⊎ ((¬ (error_kind fault ≡ NotADirectory)) × IsFromIo fault e)

-- the kind says that nothing is there, or no folder
abbrev pub SaysAbsent : ErrorKind → Type 0
SaysAbsent kind = (kind ≡ NotFound) ⊎ (kind ≡ NotADirectory)

-- what a fault of an entry becomes: one that never says so of the folder
abbrev pub IsEntryFault : IoError → IoError → Type 0
IsEntryFault found fault =
    (SaysAbsent (error_kind found) × (error_kind fault ≡ Other))
    ⊎ ((¬ (error_kind found ≡ NotFound))
    × ((¬ (error_kind found ≡ NotADirectory)) × (fault ≡ found)))

-- the fault is one of reading a file or a folder, other than out of memory
abbrev pub IsInputFault : Fault → Type 0
IsInputFault fault = (kind : ErrorKind) × ((¬ (kind ≡ OutOfMemory)) × (fault ≡ io kind))

-- the error is such a fault
abbrev pub IsInput : Error → Type 0
IsInput e = IsInputFault (fault_of e)

-- the fault is one of listing a folder: not out of memory, and never that a name is no folder
abbrev pub IsListingInput : Fault → Type 0
IsListingInput fault =
    (kind : ErrorKind)
    × ((¬ (kind ≡ OutOfMemory)) × ((¬ (kind ≡ NotADirectory)) × (fault ≡ io kind)))
