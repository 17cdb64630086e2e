-- What an error is by its fault.
use Rattle.cargo_toml_discovery.proofs.Cited.{Bool, Error, Error-F, ErrorKind, Fault, Io, IsEntryFault, IsFromIo, IsInput, IsListingFault, IsListingInput, Memory, NotADirectory, NotFound, OutOfMemory, SaysAbsent, Shape, Toml, ap, error_kind, false, fault_of, fault_step, fold-roll-Error, fold_out-Error, inl, inr, io, map-Error, memory, out-Error, refl, roll-Error, roll-out-Error, rolls-Io, rolls-Memory, sameb, sym, the_type, true, ◌∙◌, ◌≡◌, ◌⊎◌}
use Rattle.std.specs.declared.io.Error.{Error as IoError}

-- `Memory` is one error alone
layer_alone : (l : Error-F Error) → fault_step (map-Error _ _ fault_of l) ≡ memory → l ≡ Error-F.Memory
layer_alone (Error-F.Parse (Toml f)) h = cc
layer_alone (Error-F.Parse (Shape t)) h = cc
layer_alone (Error-F.Io f) h = cc
layer_alone (Error-F.Workspace b) h = cc
layer_alone Error-F.InheritedUnknownValue h = cc
layer_alone (Error-F.WorkspaceIntegrity s) h = cc
layer_alone (Error-F.Other t) h = cc
layer_alone Error-F.Memory h = refl

pub memory_alone : (e : Error) → fault_of e ≡ memory → e ≡ Memory
memory_alone e h = sym (roll-out-Error e) ∙ ap roll-Error (layer_alone (out-Error e) (sym (fold_out-Error Fault fault_step e) ∙ h)) ∙ rolls-Memory

pub fault_of-memory : fault_of Memory ≡ memory
fault_of-memory = ap fault_of (sym rolls-Memory) ∙ fold-roll-Error Fault fault_step Error-F.Memory

-- a kind of input comes of a fault of input alone
layer_of_input : (kind : ErrorKind) (l : Error-F Error) → fault_step (map-Error _ _ fault_of l) ≡ io kind →
    (found : IoError) × (l ≡ Error-F.Io found)
layer_of_input kind (Error-F.Parse (Toml f)) h = cc
layer_of_input kind (Error-F.Parse (Shape t)) h = cc
layer_of_input kind (Error-F.Io f) h = (f, refl)
layer_of_input kind (Error-F.Workspace b) h = cc
layer_of_input kind Error-F.InheritedUnknownValue h = cc
layer_of_input kind (Error-F.WorkspaceIntegrity s) h = cc
layer_of_input kind (Error-F.Other t) h = cc
layer_of_input kind Error-F.Memory h = cc

pub no_input : (e : Error) (kind : ErrorKind) → ((found : IoError) → ¬ (e ≡ Io found)) → ¬ (fault_of e ≡ io kind)
no_input e kind none h =
    let layer = layer_of_input kind (out-Error e) (sym (fold_out-Error Fault fault_step e) ∙ h) in
    none layer.0 (sym (roll-out-Error e) ∙ ap roll-Error layer.1 ∙ rolls-Io layer.0)

pub fault_of-io : (found : IoError) → fault_of (Io found) ≡ io (error_kind found)
fault_of-io found = ap fault_of (sym (rolls-Io found)) ∙ fold-roll-Error Fault fault_step (Error-F.Io found)

-- a fault of input of another kind is no absence
pub no_absence : (e : Error) (found : IoError) → e ≡ Io found → sameb the_type (error_kind found) NotFound ≡ false →
    ¬ (fault_of e ≡ io NotFound)
no_absence e found is other h =
    let input : io (error_kind found) ≡ io NotFound = sym (fault_of-io found) ∙ ap fault_of (sym is) ∙ h in
    let kind : error_kind found ≡ NotFound = cc in
    let same = ap (λ (k : ErrorKind). sameb the_type k NotFound) kind in
    let clash : sameb the_type NotFound NotFound ≡ false = sym same ∙ other in cc

-- a fault of reading, once it is an error
pub from_input : (f : IoError) (e : Error) → IsFromIo f e → (e ≡ Memory) ⊎ IsInput e
from_input f e (inl h) = inl h.1
from_input f e (inr h) = inr (error_kind f, (h.0, ap fault_of h.1 ∙ fault_of-io f))

-- want of memory, and that a name is no folder, are kinds of their own
abbrev is_memory : ErrorKind → Bool
is_memory OutOfMemory = true
is_memory kind = false

abbrev is_no_folder : ErrorKind → Bool
is_no_folder NotADirectory = true
is_no_folder kind = false

abbrev is_missing : ErrorKind → Bool
is_missing NotFound = true
is_missing kind = false

pub has_memory : ¬ (NotFound ≡ OutOfMemory)
has_memory h = let clash : false ≡ true = ap is_memory h in cc

-- and one of listing a folder
pub from_listing : (f : IoError) (e : Error) → IsListingFault f e → (e ≡ Memory) ⊎ IsListingInput (fault_of e)
from_listing f e (inl absent) =
    inr (
      NotFound,
      (
        has_memory,
        ((λ h. let clash : false ≡ true = ap is_no_folder h in cc), absent.1),
      ),
    )
from_listing f e (inr (other, inl h)) = inl h.1
from_listing f e (inr (other, inr h)) = inr (error_kind f, (h.0, (other, ap fault_of h.1 ∙ fault_of-io f)))

-- the fault of an entry doesn't say that the folder is absent
no_missing : (found fault : IoError) → IsEntryFault found fault → ¬ (error_kind fault ≡ NotFound)
no_missing found fault (inl (_, other)) h = let clash : false ≡ true = ap is_missing (sym other ∙ h) in cc
no_missing found fault (inr (there, (folder, same))) h = there (ap error_kind (sym same) ∙ h)

no_file : (found fault : IoError) → IsEntryFault found fault → ¬ (error_kind fault ≡ NotADirectory)
no_file found fault (inl (_, other)) h = let clash : false ≡ true = ap is_no_folder (sym other ∙ h) in cc
no_file found fault (inr (there, (folder, same))) h = folder (ap error_kind (sym same) ∙ h)

pub entry_present : (found fault : IoError) → IsEntryFault found fault → ¬ SaysAbsent (error_kind fault)
entry_present found fault is (inl missing) = no_missing found fault is missing
entry_present found fault is (inr file) = no_file found fault is file

-- and so in what it becomes
pub from_entry : (f : IoError) (e : Error) → ¬ SaysAbsent (error_kind f) → IsFromIo f e → (e ≡ Memory) ⊎ IsListingInput (fault_of e)
from_entry f e present (inl h) = inl h.1
from_entry f e present (inr h) = inr (error_kind f, (h.0, ((λ file. present (inr file)), ap fault_of h.1 ∙ fault_of-io f)))
