-- What a run of the program says of its end.
use Rattle.std.specs.Prelude.{◌≡◌, ◌⊎◌, ℕ, List, [], ◌∷◌, ◌++◌, Option}
use Rattle.std.specs.Prelude.{Some, option_map, codes, Result, Ok, Err, ⊤}
use Rattle.std.specs.declared.io.Error.{Error as IoError}
use Rattle.std.specs.declared.io.ErrorKind.TheVariants as io
use Rattle.std.specs.IoError.{error_kind}
use Rattle.cargo_toml_parts.specs.declared.error.Error.{Error, Memory}
use Rattle.cargo_toml_parts.specs.Faults.{text_of}
use Rattle.cargo_toml_parts.specs.OwnWords.{HasOwnWords}
use Rattle.cargo_toml_program.specs.declared.outcome.Outcome.{Outcome}
use Rattle.cargo_toml_program.specs.declared.outcome.Outcome.TheVariants.{Done, Refused}
use Rattle.cargo_toml_program.specs.declared.outcome.Outcome.TheVariants.{NotACommand}

-- the end of a run whose command was done or refused
abbrev pub outcome_of : Result ⊤ Error → Outcome
outcome_of (Ok _) = Done
outcome_of (Err e) = Refused e

-- the status of the program
abbrev pub exit_status : Outcome → ℕ
exit_status Done = 0
exit_status (Refused e) = 1
exit_status NotACommand = 2

-- how the program is called, without a line feed
abbrev pub usage : List ℕ
usage = codes "usage: cargo-toml features [--max N] FILE | complete FILE"

-- a text, and a line feed behind it
abbrev pub line : List ℕ → List ℕ
line text = text ++ 10 ∷ []

-- what is written on standard error, where what the fault displays is stated
abbrev pub text_of_outcome : Outcome → Option (List ℕ)
text_of_outcome Done = Some []
text_of_outcome (Refused e) = option_map (λ t. line (codes "error: " ++ t)) (text_of e)
text_of_outcome NotACommand = Some (line usage)

-- what is written, whatever the words are that `toml` and input write in the fault
abbrev pub HasOutcomeWords : Outcome → List ℕ → Type 0
HasOutcomeWords Done text = text ≡ []
HasOutcomeWords (Refused e) text =
    (told : List ℕ) × (HasOwnWords e told × (text ≡ line (codes "error: " ++ told)))
HasOutcomeWords NotACommand text = text ≡ line usage

-- the end of a run whose words couldn't be had: `Memory`, or else words that are no command
abbrev pub IsOfWords : IoError → Outcome → Type 0
IsOfWords fault outcome =
    ((error_kind fault ≡ io.OutOfMemory) × (outcome ≡ Refused Memory))
    ⊎ ((¬ (error_kind fault ≡ io.OutOfMemory)) × (outcome ≡ NotACommand))
