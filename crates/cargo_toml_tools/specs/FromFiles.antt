-- Manifests in files, what is documented of a text, and why a file gives none. What a file holds,
-- nothing says.
use Rattle.std.specs.Prelude.{◌≡◌, ◌⊎◌, Err, IsUtf8, List, None, false, true}
use Rattle.std.specs.declared.hash.{DefaultHasher.DefaultHasher, RandomState.RandomState}
use Rattle.toml.specs.{View.view, declared.value.Value.Value}
use Rattle.cargo_toml.specs.Manifests.{ManifestRefuses, held, manifest_meaning, manifest_reads}
use Rattle.cargo_toml.specs.RealFiles.{ReadsAs, any_root, real_folders, real_roots}
use Rattle.cargo_toml.specs.{Action.Text, Completed.IsCompleted, Disk.IsInput, Error.Error}
use Rattle.cargo_toml.specs.{Error.Memory, Limits.MAX_ITEMS, Manifest.Manifest, Parsed.IsParsed}
use Rattle.cargo_toml.specs.{Texts.AnyRefuses, Texts.IsFromText, Texts.any_tree, Views.answer_of}
use Rattle.cargo_toml_depth.specs.Nesting.{is_too_deep}
use Rattle.cargo_toml_features.specs.declared.features.Features.{Features}
use Rattle.cargo_toml_shallow.specs.Deep.{IsDeepFault, IsShallowCompletionFault}
use Rattle.cargo_toml_tools.specs.{Documented.AreRowsOf, declared.document.listing.Row.Row}

-- the text, which a file may hold, doesn't nest too deep and reads as this manifest
pub record IsManifestIn (text : Text) (m : Manifest Value) : Type 0 where
  pub utf8 : IsUtf8 text
  pub shallow : is_too_deep text ≡ false
  pub reads : ReadsAs text (manifest_meaning view) (manifest_reads any_tree) m

-- the text reads as a manifest that completion among the real files around this path makes into
-- this one
pub record IsCompletedIn (path text : Text) (new : Manifest Value) : Type 0 where
  pub read : Manifest Value
  pub written : IsManifestIn text read
  pub completed : IsCompleted read None real_roots any_root real_folders new

-- reading the text may be refused with this fault: it nests too deep; or it doesn't, and the fault
-- is its own
abbrev pub RefusesText : Text → Error → Type 0
RefusesText text e =
    (e ≡ Memory)
    ⊎ (IsDeepFault text e
    ⊎ ((is_too_deep text ≡ false)
    × IsFromText (manifest_meaning view) (manifest_reads any_tree)
    (ManifestRefuses any_tree AnyRefuses) text (Err e)))

-- there was no memory, or a fault of input
abbrev pub IsOfInput : Error → Type 0
IsOfInput e = (e ≡ Memory) ⊎ IsInput e

-- why a file gives no manifest: no memory, a fault of input, or one of some text
abbrev pub IsUnreadable : Error → Type 0
IsUnreadable e =
    (e ≡ Memory) ⊎ (IsInput e ⊎ ((text : Text) × (IsUtf8 text × RefusesText text e)))

-- why the text gives no manifest that is completed around this path
abbrev pub IsUncompleted : Text → Text → Error → Type 0
IsUncompleted path text e =
    RefusesText text e
    ⊎ ((read : Manifest Value)
    × (IsManifestIn text read × IsShallowCompletionFault path (held read) None e))

-- the text reads as a manifest, and just the rows of that were taken: those of its features,
-- resolved with none removed
pub record IsDocumented {T : Type 0} (took : T → List Row → T → Type 0) (text : Text) (old new : T)
    : Type 0 where
  pub manifest : Manifest Value
  pub read : IsManifestIn text manifest
  pub features : Features RandomState DefaultHasher
  pub whole : IsParsed MAX_ITEMS (held manifest) (λ _. true) (answer_of features)
  pub rows : List Row
  pub exact : AreRowsOf (held manifest) features.features rows
  pub taken : took old rows new

-- why nothing is documented of a text
abbrev pub IsUndocumented : Text → Error → Type 0
IsUndocumented text e = IsOfInput e ⊎ RefusesText text e
