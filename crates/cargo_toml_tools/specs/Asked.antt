-- What the words of the command line ask for, what a checksum is, and how a run ends.
use Rattle.std.specs.Prelude.{◌&&◌, ◌==◌, ◌||◌, ◌≡◌, ℕ, Bool, IfSome, None, length, nat_le}
use Rattle.std.specs.{List.list_all, Prelude.vec_len, Prelude.⊤}
use Rattle.cargo_toml.specs.Action.{Text}
use Rattle.cargo_toml_tools.specs.declared.words.Outcome.TheVariants.{Done, Odd, Refused, NoCommand}
use Rattle.cargo_toml_tools.specs.{declared.words.Outcome.Outcome, declared.words.Request.Request}
use Rattle.cargo_toml_tools.specs.{declared.words.Request.TheVariants.Index}

-- the status of the program
abbrev pub exit_status : Outcome → ℕ
exit_status Done = 0
exit_status Odd = 3
exit_status Refused = 1
exit_status NoCommand = 2

-- a checksum is that of the only file
abbrev pub IsOfOneFile : Request → Type 0
IsOfOneFile (Index inputs wanted) =
    IfSome wanted.checksum (λ _. (vec_len inputs.files ≡ 1) × (inputs.from ≡ None))
IsOfOneFile other = ⊤

-- a hex digit in lower case
abbrev pub is_hex_digit : ℕ → Bool
is_hex_digit b = (nat_le 48 b && nat_le b 57) || (nat_le 97 b && nat_le b 102)

-- 64 of them: a SHA-256 as an index writes it
abbrev pub is_checksum : Text → Bool
is_checksum text = (length text == 64) && list_all is_hex_digit text
