-- What `index` answers of a text of a file.
use Rattle.std.specs.Prelude.{◌≡◌, ◌⊎◌, ◌++◌, [], ◌∷◌, List, None, Option, Result, Some, ⊤, codes}
use Rattle.std.specs.Prelude.{option_and_then, option_map}
use Rattle.std.specs.{BTreeMap.BTreeMap, BTreeMap.get_by, Borrow.Bor, Cmp.Lexicographic.slice_cmp}
use Rattle.std.specs.{Option.option_copied, Option.option_or, Ordering.nat_cmp}
use Rattle.std.specs.{declared.fmt.Error.Error as FmtError, declared.fmt.Formatter.Formatter}
use Rattle.semver.specs.Identifiers.{parts_text}
use Rattle.serde_json.specs.{Data.Data, Written.IsInOrder}
use Rattle.toml.specs.declared.value.Value.{Value}
use Rattle.cargo_toml.specs.Manifests.{held, ManifestMeaning}
use Rattle.cargo_toml.specs.{Action.Text, InheritableValues.value_of, Manifest.Manifest}
use Rattle.cargo_toml_parts.specs.OwnWords.{HasOwnWords, WritesSome}
use Rattle.cargo_toml_lint.specs.declared.finding.Finding.{Finding}
use Rattle.cargo_toml_tools.specs.Alone.{IsCompletedFrom, IsUncompletedFrom}
use Rattle.cargo_toml_tools.specs.FromFiles.{IsOfInput}
use Rattle.cargo_toml_tools.specs.Indexed.{Wanted, refusal_of}
use Rattle.cargo_toml_tools.specs.{IndexEntries.index_data, declared.index.IndexError.IndexError}
use Rattle.cargo_toml_tools.specs.{Linted.AreFindingsOf, declared.files.alone.Source.Source}
use Rattle.cargo_toml_tools.specs.{Sections.told, declared.index.IndexError.TheVariants.Memory}
use Rattle.cargo_toml_tools.specs.declared.files.indexing.Fault.TheVariants as fault
use Rattle.cargo_toml_tools.specs.declared.files.indexing.Fault.{Fault}

-- the text reads and completes as this manifest, of which lint finds this
pub record IsLookedAt (s : Source) (m : Manifest Value) (findings : List Finding) : Type 0 where
  pub completed : IsCompletedFrom s m
  pub found : AreFindingsOf (held m) findings

-- what these sums have for a name
abbrev pub sum_at : BTreeMap (Bor Text) (Bor Text) → Text → Option Text
sum_at sums name = option_copied (get_by (λ q. slice_cmp nat_cmp name q.now) sums)

-- the sum of a crate's archive, `NAME-VERSION.crate`, among sums by name
abbrev pub sum_of : {M : Type 0} → (Text → Option Text) → ManifestMeaning M → Option Text
sum_of sums m =
    option_and_then (λ p. option_and_then
    (λ v. sums (p.name ++ codes "-" ++ parts_text v ++ codes ".crate")) (value_of p.version))
    m.«package»

-- the name of the crate
abbrev pub name_of : {M : Type 0} → ManifestMeaning M → Option Text
name_of m = option_map (λ p. p.name) m.«package»

-- what is printed is the line of such a manifest, which an index takes, and a line feed. Its
-- checksum is the one that is asked for, or else the one that the sums have of the crate
pub record IsLineOf (s : Source) (w : Wanted) (sums : Text → Option Text) (name printed : Text)
    : Type 0 where
  pub manifest : Manifest Value
  pub findings : List Finding
  pub looked_at : IsLookedAt s manifest findings
  pub taken : refusal_of w findings s.text.now (held manifest) ≡ None
  pub named : name_of (held manifest) ≡ Some name
  pub line : Data
  pub is :
      Some line
      ≡ index_data (record w { checksum = option_or w.checksum (sum_of sums (held manifest)) })
      s.text.now (held manifest)
  pub spelled : Text
  pub exact : IsInOrder spelled line
  pub ended : printed ≡ spelled ++ 10 ∷ []

-- it is a manifest that an index doesn't take, for what is told
pub record IsUntaken (s : Source) (w : Wanted) (e : IndexError) : Type 0 where
  pub manifest : Manifest Value
  pub findings : List Finding
  pub looked_at : IsLookedAt s manifest findings
  pub told_so : (e ≡ Memory) ⊎ (told e ≡ refusal_of w findings s.text.now (held manifest))

-- why the text gives no line
abbrev pub IsIndexFault : Source → Wanted → Fault → Type 0
IsIndexFault s w (fault.Manifest e) = IsOfInput e ⊎ IsUncompletedFrom s e
IsIndexFault s w (fault.Index e) = IsUntaken s w e

-- a manifest's fault writes its own words, whatever `toml` and input write after them
abbrev pub WritesOwnWords : {W : Type 0} → (W → Text → W → Type 0) → Formatter W
    → Result (Unit {0}) FmtError → Fault → Formatter W → Type 0
WritesOwnWords took f r (fault.Manifest e) g = WritesSome took f r (HasOwnWords e) g
WritesOwnWords took f r (fault.Index e) g = ⊤
