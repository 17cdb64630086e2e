-- What the calls answer.
use Rattle.std.specs.Prelude.{◌≡◌, ◌⊎◌, ◌↔◌, ◌∷◌, Bool, IsSome, List, None, Option, Some, []}
use Rattle.std.specs.Prelude.{◌||◌, IsUtf8, bytes_eq, codes, false, length, map, nat_eq, true, ℕ, ⊤}
use Rattle.std.specs.List.{list_any, slice_split}
use Rattle.std.specs.{Option.option_copied, declared.hash.DefaultHasher.DefaultHasher}
use Rattle.serde_json.specs.Data as json
use Rattle.serde_json.specs.{View.items_of, Written.IsInOrder, Written.compact_text}
use Rattle.toml.specs.{Data.Data, Data.Members, Data.table, Parse.parse_document}
use Rattle.toml.specs.declared.value.Value.{Value}
use Rattle.cargo_toml.specs.{Action.Text, Error.Error, Error.Memory, Limits.MAX_ITEMS}
use Rattle.cargo_toml.specs.Manifest.{Manifest}
use Rattle.cargo_toml.specs.{Manifests.ManifestMeaning, Manifests.held, Parsed.IsParsed}
use Rattle.cargo_toml.specs.{Manifests.manifest_reads, Texts.any_tree, Texts.document_reads}
use Rattle.cargo_toml.specs.{Reread.IsTold, Reread.reread, Views.answer_of}
use Rattle.cargo_toml_features.specs.declared.features.Features.{Features}
use Rattle.cargo_toml_lint.specs.declared.finding.Finding.{Finding}
use Rattle.cargo_toml_check.specs.{Blamed.reads, Listed.IsListing, Listed.is_cut, Shown.json_of}
use Rattle.cargo_toml_check.specs.Listed.{actions_json, stands_for_json}
use Rattle.cargo_toml_tools.specs.{Asked.is_checksum, Documented.AreRowsOf}
use Rattle.cargo_toml_tools.specs.{FromFiles.IsManifestIn}
use Rattle.cargo_toml_tools.specs.{FromFiles.RefusesText, IndexEntries.index_data}
use Rattle.cargo_toml_tools.specs.{IndexEntries.text_or_null, Indexed.Wanted, Indexed.refusal_of}
use Rattle.cargo_toml_tools.specs.{Linted.AreFindingsOf, declared.document.listing.Row.Row}
use Rattle.cargo_toml_check.specs.declared.check.Told.{Told}
use Rattle.cargo_toml_tools.specs.declared.files.indexing.Fault.{Fault}
use Rattle.cargo_toml_tools.specs.declared.files.indexing.Fault.TheVariants as fault
use Rattle.cargo_toml_tools.specs.declared.index.IndexError.TheVariants as index
use Rattle.cargo_toml_tools.specs.Sections.{told}
use Rattle.cargo_toml_answers.specs.Refused.{HasWords, IsRefusal, IsUnread, TellsOf, faults_json}
use Rattle.cargo_toml_answers.specs.declared.refusal.Refusal.{Refusal}
use Rattle.cargo_toml_answers.specs.declared.texts.Keys.{Keys}

-- the text reads as a manifest of which this holds
pub record Reads (text : Text) (P : Manifest Value → Type 0) : Type 0 where
  pub manifest : Manifest Value
  pub written : IsManifestIn text manifest
  pub exact : P manifest

-- the text doesn't read as a manifest, or else what is made of that is refused
abbrev pub IsRefusedText : Text → (Manifest Value → Error → Type 0) → Error → Type 0
IsRefusedText text refuses e = RefusesText text e ⊎ Reads text (λ m. refuses m e)

-- the same, or the text isn't read at all
abbrev pub IsRefusedFor : Text → (Manifest Value → Error → Type 0) → Error → Type 0
IsRefusedFor text refuses e = IsUnread text e ⊎ IsRefusedText text refuses e

-- the object of a tree of the manifest, with no blanks. Where the manifest meets the conditions of
-- reading again, the tree reads as the manifest, as `reread` says
pub record IsShownIn (m : ManifestMeaning Data) (shown : Text) : Type 0 where
  pub tree : Members
  pub printed : shown ≡ compact_text (json_of (table tree))
  pub again : IsTold m → reads (table tree) ≡ Some (reread m)

-- the name is one of these lines
abbrev pub is_line : Text → Text → Bool
is_line lines name = list_any (bytes_eq name) (slice_split (λ b. nat_eq b 10) lines)

-- the object of the features that the manifest resolves to at this limit, where those hidden names
-- are kept that `keep` is true of
pub record IsListed (limit : ℕ) (keep : Text → Bool) (m : Manifest Value) (shown : Text)
    : Type 0 where
  pub features : Features Keys DefaultHasher
  pub resolved : IsParsed limit (held m) keep (answer_of features)
  pub listing : json.Data
  pub exact : IsListing (is_cut limit (held m)) features listing
  pub printed : shown ≡ compact_text listing

abbrev pub row_json : Row → json.Data
row_json r = json.object (json.member (codes "default") (json.boolean r.is_default)
    (json.member (codes "dependencies") (actions_json r.turns_on.actions)
    (json.member (codes "features") (stands_for_json r.turns_on.features)
    (json.member (codes "listed") (json.boolean r.is_listed)
    (json.member (codes "name") (json.string r.name.now)
    (json.member (codes "text") (text_or_null (option_copied r.doc)) json.no_members))))))

abbrev pub rows_json : List Row → json.Data
rows_json rows = json.object (json.member (codes "features")
    (json.array (items_of (map row_json rows))) json.no_members)

-- the object of the features that users may ask for, resolved with none removed
pub record IsDocumented (m : Manifest Value) (shown : Text) : Type 0 where
  pub features : Features Keys DefaultHasher
  pub whole : IsParsed MAX_ITEMS (held m) (λ _. true) (answer_of features)
  pub rows : List Row
  pub exact : AreRowsOf (held m) features.features rows
  pub printed : shown ≡ compact_text (rows_json rows)

-- what a line is asked for: one of crates.io, with this checksum
abbrev pub wanted_with : Option Text → Wanted
wanted_with checksum = record {
  registry = codes "https://github.com/rust-lang/crates.io-index";
  names = [];
  checksum = checksum;
  folder = None;
  force = false;
}

-- the checksum, if one is given
abbrev pub checksum_of : Text → Option Text
checksum_of [] = None
checksum_of (digit ∷ digits) = Some (digit ∷ digits)

-- the line that an index has of the crate
pub record IsIndexed (text : Text) (w : Wanted) (m : Manifest Value) (shown : Text) : Type 0 where
  pub findings : List Finding
  pub found : AreFindingsOf (held m) findings
  pub taken : refusal_of w findings text (held m) ≡ None
  pub line : json.Data
  pub exact : Some line ≡ index_data w text (held m)
  pub printed : IsInOrder shown line

-- the object of what is at fault in a text: nothing just where it reads as a manifest
pub record IsChecked (text shown : Text) : Type 0 where
  pub faults : List Told
  pub silent :
      (faults ≡ [])
      ↔ IsSome (document_reads (manifest_reads any_tree) (parse_document text))
  pub printed : shown ≡ compact_text (json.object (json.member (codes "faults")
      (faults_json faults) json.no_members))

-- the object of some findings
pub record AreTold (shown : Text) : Type 0 where
  pub findings : List json.Data
  pub printed : shown ≡ compact_text (json.object (json.member (codes "findings")
      (json.array (items_of findings)) json.no_members))

-- why a manifest gets no line: there was no memory, or an index doesn't take it
abbrev pub IsUntaken : Text → Wanted → Manifest Value → Fault → Type 0
IsUntaken text w m (fault.Manifest e) = e ≡ Memory
IsUntaken text w m (fault.Index e) = (findings : List Finding)
    × (AreFindingsOf (held m) findings
    × ((e ≡ index.Memory) ⊎ (told e ≡ refusal_of w findings text (held m))))

-- the same of a text, which may also have a fault of its own
abbrev pub IsUnindexed : Text → Wanted → Fault → Type 0
IsUnindexed text w (fault.Manifest e) = RefusesText text e ⊎ (e ≡ Memory)
IsUnindexed text w (fault.Index e) = Reads text (λ m. IsUntaken text w m (fault.Index e))

-- the words of a fault, where the library writes them all itself
abbrev pub TellsOfFault : Fault → Text → Type 0
TellsOfFault (fault.Manifest e) json = TellsOf e json
TellsOfFault (fault.Index e) json = HasWords (λ _. ⊤) json

-- the object tells why a text isn't read, or not indexed with this checksum
abbrev pub TellsOfIndex : Text → Text → Text → Type 0
TellsOfIndex text checksum json =
    ((e : Error) × (IsUnread text e × TellsOf e json))
    ⊎ ((f : Fault) × (IsUnindexed text (wanted_with (checksum_of checksum)) f
    × TellsOfFault f json))

-- 64 hex digits, or nothing
abbrev pub is_sum : Text → Bool
is_sum checksum = nat_eq (length checksum) 0 || is_checksum checksum

-- the refusal for that, or of a checksum that is none
abbrev pub IsIndexRefusal : Text → Text → Refusal → Type 0
IsIndexRefusal text checksum r =
    IsRefusal ((¬ IsUtf8 checksum) ⊎ (is_sum checksum ≡ false)) (TellsOfIndex text checksum) r
