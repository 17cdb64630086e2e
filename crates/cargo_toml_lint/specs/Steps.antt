-- What the steps of linting find in what was gathered and resolved: no public contract rests on it.
use Rattle.std.specs.Prelude.{◌≡◌, ℕ, Bool, false, ◌++◌, ◌||◌, not, nat_lt, length, List, map}
use Rattle.std.specs.{Borrow.Bor, HashMap.HashMap, Option.option_map_or}
use Rattle.cargo_toml.specs.{Action.Text, Feature.Feature, Graph.Table, Manifests.ManifestMeaning}
use Rattle.cargo_toml.specs.Views.{value_at}
use Rattle.cargo_toml_lint.specs.Findings.{About, CountsWith, about, findings_by}
use Rattle.cargo_toml_lint.specs.{Names.held_names, Names.listed_by, declared.finding.Code.Code}
use Rattle.cargo_toml_lint.specs.{declared.finding.Finding.Finding, declared.known.Known.Known}

-- these findings are added at the end
abbrev pub Finds : List About → List Finding → List Finding → Type 0
Finds xs old new = map about new ≡ map about old ++ xs

module _ {S : Type 0} (m : HashMap (Bor Text) Feature S) where
  abbrev pub explicit_at : Text → Bool
  explicit_at f = option_map_or (λ v. v.explicit) (value_at m f) false

  abbrev pub implied_at : Text → Bool
  implied_at f = option_map_or (λ v. not v.explicit) (value_at m f) false

  abbrev pub private_at : Text → Bool
  private_at f = option_map_or (λ v. not v.public) (value_at m f) false

  -- more texts than count, or a name that the limit left out
  abbrev pub is_beyond : ℕ → Text → List Text → Bool
  is_beyond limit f ts = nat_lt limit (length ts) || not (explicit_at f)

  -- what is found of what is written, by the names that are gathered
  abbrev pub written_in : {M : Type 0} → Known → ℕ → ManifestMeaning M → List About
  written_in known limit manifest =
      findings_by (held_names known) (is_beyond limit) limit (listed_by known) manifest

  -- what holds of the feature f of the table
  abbrev pub CountsBy : Table → Code → Text → Type 0
  CountsBy = CountsWith implied_at private_at
