-- Which findings count.
use Rattle.std.specs.{List.list_any, Prelude.Bool, Prelude.List, Prelude.true}
use Rattle.cargo_toml_lint.specs.declared.finding.Level.TheVariants.{Error, Hint, Warning}
use Rattle.cargo_toml_lint.specs.{Findings.code_level, declared.finding.Finding.Finding}
use Rattle.cargo_toml_lint.specs.{declared.finding.Level.Level}

-- errors and warnings, and hints where they are denied
abbrev pub counts : Bool → Level → Bool
counts _ Error = true
counts denies_hints Hint = denies_hints
counts _ Warning = true

-- one counts
abbrev pub is_odd : Bool → List Finding → Bool
is_odd denies_hints xs = list_any (λ x. counts denies_hints (code_level x.code)) xs
