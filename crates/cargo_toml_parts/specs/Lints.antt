-- What a lint holds, and which trees are lints.
use Rattle.std.specs.Prelude.{ℕ, ℤ, pos, List, [], ◌∷◌, codes, Option}
use Rattle.std.specs.Prelude.{Some, option_map, option_and_then}
use Rattle.toml.specs.Data.{Data, table, Members, as_str}
use Rattle.toml.specs.View.{view}
use Rattle.cargo_toml_parts.specs.declared.lint.Lint.{Lint}
use Rattle.cargo_toml_parts.specs.declared.lint.LintLevel.{LintLevel}
use Rattle.cargo_toml_parts.specs.declared.lint.LintLevel.TheVariants.{Allow, Warn, ForceWarn}
use Rattle.cargo_toml_parts.specs.declared.lint.LintLevel.TheVariants.{Deny, Forbid}
use Rattle.cargo_toml_parts.specs.Numbers.{i8_of}
use Rattle.cargo_toml_parts.specs.Reads.{◌>>=◌, required_at, given_at, others_read, map_meaning}
use Rattle.cargo_toml_parts.specs.Settings.{named}

-- the level that a text names
abbrev pub level_of : Data → Option LintLevel
level_of d = option_and_then (named (
    (codes "allow", Allow)
    ∷ (codes "warn", Warn)
    ∷ (codes "force-warn", ForceWarn)
    ∷ (codes "deny", Deny)
    ∷ (codes "forbid", Forbid) ∷ [])) (as_str d)

-- how severe a lint is, which of two goes first, and what else is said of it
pub record LintMeaning : Type 0 where
  pub level : LintLevel
  pub priority : ℤ
  pub config : List (List ℕ × Data)

-- what a lint holds
abbrev pub lint_meaning : Lint → LintMeaning
lint_meaning l =
    record { level = l.level; priority = l.priority; config = map_meaning view l.config }

-- the lint of which a level alone is said: priority 0, and no configuration
abbrev pub level_alone : LintLevel → LintMeaning
level_alone level = record { level = level; priority = pos 0; config = [] }

-- the keys of a lint that are no configuration
abbrev pub lint_keys : List (List ℕ)
lint_keys = codes "level" ∷ codes "priority" ∷ []

-- the lint of a table
abbrev pub table_lint : Members → Option LintMeaning
table_lint ms = do
  level ← required_at "level" level_of ms
  priority ← given_at "priority" (pos 0) i8_of ms
  config ← others_read lint_keys (λ d. Some d) ms
  Some (record { level = level; priority = priority; config = config })

-- a level, or a table
abbrev pub lint_of : Data → Option LintMeaning
lint_of (table ms) = table_lint ms
lint_of d = option_map level_alone (level_of d)
