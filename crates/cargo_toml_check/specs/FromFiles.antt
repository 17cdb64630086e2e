-- What is found and shown of a text of a file.
use Rattle.std.specs.Prelude.{◌≢◌, ◌⊎◌, Bool, false, true}
use Rattle.std.specs.declared.hash.{DefaultHasher.DefaultHasher, RandomState.RandomState}
use Rattle.serde_json.specs.Data as json
use Rattle.serde_json.specs.Written.{IsInOrder}
use Rattle.toml.specs.declared.value.Value.{Value}
use Rattle.cargo_toml.specs.{Action.Text, Error.Error, Error.Memory, Limits.MAX_ITEMS}
use Rattle.cargo_toml.specs.{Manifest.Manifest, Manifests.held, Parsed.IsParsed, Views.answer_of}
use Rattle.cargo_toml_features.specs.declared.features.Features.{Features}
use Rattle.cargo_toml_check.specs.Listed.{IsListing, is_cut}
use Rattle.cargo_toml_tools.specs.Alone.{IsCompletedFrom, IsUncompletedFrom}
use Rattle.cargo_toml_tools.specs.declared.files.alone.Source.{Source}

-- the text reads as a manifest, and this holds of what completion around the path makes of it
pub record HoldsOfCompleted (s : Source) (P : Manifest Value → Type 0) : Type 0 where
  pub manifest : Manifest Value
  pub completed : IsCompletedFrom s manifest
  pub exact : P manifest

-- the text doesn't read or complete, or else what is made of it is refused
abbrev pub IsRefusedFor : Source → (Manifest Value → Error → Type 0) → Error → Type 0
IsRefusedFor s refuses e =
    IsUncompletedFrom s e ⊎ HoldsOfCompleted s (λ m. refuses m e)

-- nothing is told only where the text reads and completes, and something only where it doesn't
-- read, or some answers of files keep it from completing. For any manifest there are such answers
abbrev pub IsChecked : Source → Bool → Type 0
IsChecked s false = (m : Manifest Value) × IsCompletedFrom s m
IsChecked s true = (e : Error) × IsUncompletedFrom s e × (e ≢ Memory)

-- the text is printed of a value of JSON that lists the features that this manifest resolves to
pub record IsListed (m : Manifest Value) (shown : Text) : Type 0 where
  pub features : Features RandomState DefaultHasher
  pub resolved : IsParsed MAX_ITEMS (held m) (λ _. false) (answer_of features)
  pub listing : json.Data
  pub exact : IsListing (is_cut MAX_ITEMS (held m)) features listing
  pub printed : IsInOrder shown listing
