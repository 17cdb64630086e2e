-- What a call from C hands out.
use Rattle.std.specs.Prelude.{◌≡◌, ◌++◌, Err, List, Ok, Result, String, [], drop, length, take}
use Rattle.std.specs.Prelude.{string_bytes, ℕ}
use Rattle.std.specs.declared.alloc.Global.{Global}
use Rattle.cargo_toml.specs.Action.{Text}
use Rattle.cargo_toml_answers.specs.declared.refusal.Refusal.{Refusal}
use Rattle.cargo_toml_answers.specs.declared.refusal.Refusal.TheVariants as refusal

-- a buffer with as much of an answer as fits, and behind that with what it had
abbrev pub filled : Text → List ℕ → List ℕ
filled answer old = take (length old) answer ++ drop (length answer) old

-- the buffer has as much as fits of an answer of which this holds, whose whole length is told
pub record HandsOut (P : Text → Type 0) (old new : List ℕ) (needed : ℕ) : Type 0 where
  pub answer : Text
  pub exact : P answer
  pub whole : needed ≡ length answer
  pub buffer : new ≡ filled answer old

-- the status of a refusal
abbrev pub status_of : Refusal → ℕ
status_of (refusal.Text json) = 1
status_of refusal.Memory = 2
status_of (refusal.Argument json) = 3

-- the JSON of a refusal. For want of memory there is none
abbrev pub json_of : Refusal → Text
json_of (refusal.Text json) = string_bytes json
json_of refusal.Memory = []
json_of (refusal.Argument json) = string_bytes json

-- the status and the buffer are those of a refusal of which this holds
pub record HandsRefusal (P : Refusal → Type 0) (old new : List ℕ) (needed status : ℕ) : Type 0 where
  pub refusal : Refusal
  pub exact : P refusal
  pub told : status ≡ status_of refusal
  pub whole : needed ≡ length (json_of refusal)
  pub buffer : new ≡ filled (json_of refusal) old

-- the status of what came of a call, and the text that it hands out
abbrev pub came_status : Result (String Global) Refusal → ℕ
came_status (Ok json) = 0
came_status (Err r) = status_of r

abbrev pub came_text : Result (String Global) Refusal → Text
came_text (Ok json) = string_bytes json
came_text (Err r) = json_of r
