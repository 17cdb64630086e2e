-- Answers that are a stated value or a stated fault.
use Rattle.std.specs.Prelude.{◌≡◌, ◌⊎◌, ℕ, List, [], ◌∷◌, Result, Ok, Err}
use Rattle.cargo_toml_parts.specs.declared.error.Error.{Error, Memory}
use Rattle.cargo_toml_parts.specs.FaultValues.{Fault, fault_of}

-- the answer holds what is stated, or is the fault that is stated, or there was no memory
abbrev pub Gives : {T A : Type 0} → (T → A) → Result T Error → Result A Fault → Type 0
Gives f (Ok x) stated = stated ≡ Ok (f x)
Gives f (Err e) stated = (e ≡ Memory) ⊎ (stated ≡ Err (fault_of e))

-- one step after the other, until a fault
abbrev pub ◌>>=◌ : {A B : Type 0} → Result A Fault → (A → Result B Fault) → Result B Fault
◌>>=◌ (Ok x) next = next x
◌>>=◌ (Err e) next = Err e

-- the value under its key
abbrev pub beside : {A : Type 0} → List ℕ → Result A Fault → Result (List ℕ × A) Fault
beside key (Ok x) = Ok (key, x)
beside key (Err e) = Err e

-- all of a list, in order, or the first fault
abbrev pub each : {A B : Type 0} → (A → Result B Fault) → List A → Result (List B) Fault
each f [] = Ok []
each f (x ∷ xs) = do
  y ← f x
  ys ← each f xs
  Ok (y ∷ ys)
