-- Two answers to one manifest that say the same, but for what is public and texts.
use Rattle.std.specs.Prelude.{◌≡◌, IsTrue}
use Rattle.cargo_toml.specs.{Action.Text, Agreement.Agree, Resolved.Answer}

pub record AreAlike (a b : Answer) : Type 0 where
  pub agree : Agree a b
  -- each feature has the same binaries, in the same order
  pub bins : (f : Text) → IsTrue (a.resolution.table.has f) → a.bins f ≡ b.bins f
