-- What calls that are made one after another tell of a manifest.
use Rattle.std.specs.Prelude.{◌≡◌, ◌↔◌, ℕ, Bool, false, IsTrue, List, Option, length}
use Rattle.cargo_toml.specs.{Action.Text, Admitted.admitted, Dependencies.DependencyMeaning}
use Rattle.cargo_toml.specs.{Graph.Table, Graph.IsKept, Limits.MAX_ITEMS}
use Rattle.cargo_toml.specs.{Manifests.ManifestMeaning, Parsed.parsed_entries, Parsed.parsed_table}
use Rattle.cargo_toml.specs.{Reach.Among, Reach.IsOnce, Recorded.entries_at, Recorded.first_target}
use Rattle.cargo_toml.specs.{Recursive.Enables, Removal.is_removed}

-- a hidden feature
abbrev pub IsHidden : Table → Text → Type 0
IsHidden t f = IsTrue (is_removed t (λ _. false) f)

-- the table has the feature f, which enables g
abbrev pub HasEnabling : Table → Text → Text → Type 0
HasEnabling t f g = IsTrue (t.has f) × Enables t f g

module _ {M : Type 0} (m : ManifestMeaning M) where
  -- the answer says whether f enables g
  abbrev pub IsEnabling : Text → Text → Bool → Type 0
  IsEnabling f g answer = IsTrue answer ↔ HasEnabling (parsed_table MAX_ITEMS m) f g

  -- the dependency of the first target, among the entries of the key that count; nothing where
  -- none does
  abbrev pub first_under : Text → Option DependencyMeaning
  first_under key =
      first_target (entries_at (admitted MAX_ITEMS m.features) (parsed_entries MAX_ITEMS m) key)

  -- there are so many features without the hidden ones: as many as a list has that holds each of
  -- them once
  pub record IsFeatureCount (count : ℕ) : Type 0 where
    pub names : List Text
    pub once : IsOnce names
    pub exact : (f : Text) → Among names f
        ↔ IsKept (parsed_table MAX_ITEMS m) (IsHidden (parsed_table MAX_ITEMS m)) f
    pub counted : count ≡ length names
