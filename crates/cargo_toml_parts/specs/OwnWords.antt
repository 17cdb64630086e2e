-- What an error writes of its own, whatever `toml` and input write after it.
use Rattle.std.specs.Prelude.{◌≡◌, ℕ, List, [], ◌++◌, codes, option_map, string_bytes}
use Rattle.std.specs.Prelude.{IsOk, Result}
use Rattle.std.specs.Fmt.{HasWritten, IsPlainFormatter}
use Rattle.std.specs.declared.fmt.Error.{Error as FmtError}
use Rattle.std.specs.declared.fmt.Formatter.{Formatter}
use Rattle.cargo_toml_parts.specs.declared.error.Error.{Error, fold-Error}
use Rattle.cargo_toml_parts.specs.declared.error.Error.TheOpen.{Error-F}
use Rattle.cargo_toml_parts.specs.declared.error.ParseFault.{ParseFault}
use Rattle.cargo_toml_parts.specs.declared.error.ParseFault.TheVariants.{Toml, Shape}
use Rattle.cargo_toml_parts.specs.Faults.{workspace_words}

-- the crate's own words for a fault of a text: all of a fault of shape, none of one of `toml`
abbrev pub own_fault_words : ParseFault → List ℕ
own_fault_words (Shape t) = t.now
own_fault_words (Toml e) = []

-- one step, where the words of the fault inside are known
abbrev pub own_step : Error-F (List ℕ) → List ℕ
own_step (Error-F.Parse f) = own_fault_words f
own_step (Error-F.Io f) = []
own_step (Error-F.Workspace b) =
    workspace_words (option_map string_bytes b.value.1) ++ b.value.0
own_step Error-F.InheritedUnknownValue = codes "value from workspace hasn't been set"
own_step (Error-F.WorkspaceIntegrity s) = string_bytes s
own_step (Error-F.Other t) = t.now
own_step Error-F.Memory = codes "out of memory"

-- the words of an error that the crate writes itself
abbrev pub own_words : Error → List ℕ
own_words = fold-Error (List ℕ) own_step

-- the text is these words, and then any others
abbrev pub BeginsWith : List ℕ → List ℕ → Type 0
BeginsWith words text = (rest : List ℕ) × (text ≡ words ++ rest)

-- the text begins with the crate's words for a fault of a text
abbrev pub HasOwnFaultWords : ParseFault → List ℕ → Type 0
HasOwnFaultWords f = BeginsWith (own_fault_words f)

-- the text begins with the crate's words for an error
abbrev pub HasOwnWords : Error → List ℕ → Type 0
HasOwnWords e = BeginsWith (own_words e)

-- if f is plain and r is `Ok`, then g is f after writing some text of which this holds
abbrev pub WritesSome : {W : Type 0} → (W → List ℕ → W → Type 0) → Formatter W
    → Result (Unit {0}) FmtError → (List ℕ → Type 0) → Formatter W → Type 0
WritesSome took f r P g =
    IsPlainFormatter f → IsOk r → (text : List ℕ) × (P text × HasWritten took f text g)
