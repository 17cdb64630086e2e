-- What is stated of the names in a folder.
use Rattle.std.specs.Prelude.{ℕ, List}
use Rattle.cargo_toml_parts.specs.FaultValues.{Fault}

-- what is stated of a path: the names in that folder, that it is absent, a fault in place of names,
-- or nothing
pub data Told : Type 0 where
  names : List (List ℕ) → Told
  absent : Told
  denied : Fault → Told
  open_path : Told
