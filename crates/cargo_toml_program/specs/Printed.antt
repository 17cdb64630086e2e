-- Which texts are printed of bytes, and of files.
use Rattle.std.specs.Prelude.{◌≡◌, ◌⊎◌, ℕ, IsUtf8, List, None, Option, Ok, Err, false}
use Rattle.std.specs.Io.KnownBytes.{Appends, Consumes, IsAtEnd}
use Rattle.std.specs.declared.hash.BuildHasherDefault.{BuildHasherDefault}
use Rattle.std.specs.declared.hash.FoldHasher.{FoldHasher}
use Rattle.cargo_toml_features.specs.declared.features.Features.{Features}
use Rattle.cargo_toml_features.specs.Views.{answer_of}
use Rattle.cargo_toml_depth.specs.Nesting.{is_too_deep}
use Rattle.cargo_toml_discovery.specs.Disk.{IsInput}
use Rattle.cargo_toml_graph.specs.Action.{Text}
use Rattle.cargo_toml_manifest.specs.Completed.{IsCompleted}
use Rattle.cargo_toml_manifest.specs.declared.manifest.Manifest.{Manifest}
use Rattle.cargo_toml_manifest.specs.Manifests.{held, manifest_meaning, manifest_reads}
use Rattle.cargo_toml_manifest.specs.Manifests.{ManifestRefuses}
use Rattle.cargo_toml_manifest.specs.RealFiles.{ReadsAs}
use Rattle.cargo_toml_manifest.specs.RealFiles.{any_root, real_folders, real_roots}
use Rattle.cargo_toml_manifest.specs.Roots.{IsFromSlice}
use Rattle.cargo_toml_manifest.specs.Texts.{AnyRefuses, IsFromText, any_tree}
use Rattle.cargo_toml_parts.specs.declared.error.Error.{Error, Memory}
use Rattle.cargo_toml_program.specs.Completed.{completion_text}
use Rattle.cargo_toml_program.specs.Lines.{AreAllLines, FeaturesAscend}
use Rattle.cargo_toml_program.specs.Printing.{IsOfOutput}
use Rattle.cargo_toml_shallow.specs.Deep.{IsDeepFault, IsShallow, IsShallowCompletionFault}
use Rattle.cargo_toml_resolver.specs.Parsed.{IsParsed}
use Rattle.toml.specs.View.{view}
use Rattle.toml.specs.declared.value.Value.{Value}

-- the lines of what the features of a manifest resolve to at this limit, where each is removed
-- whose name begins with `_`; names, keys and features within a line stand in byte order, each once
abbrev pub IsFeatureText : ℕ → Manifest Value → Text → Type 0
IsFeatureText limit m text =
    (a : Features (BuildHasherDefault FoldHasher) FoldHasher)
    × IsParsed limit (held m) (λ _. false) (answer_of a) × AreAllLines a text × FeaturesAscend a

-- the bytes don't nest too deep and spell a manifest, and these are its lines
abbrev pub IsOfBytes : ℕ → List ℕ → Text → Type 0
IsOfBytes limit bytes text =
    (m : Manifest Value) × IsShallow bytes × IsFromSlice bytes (Ok m) × IsFeatureText limit m text

-- the bytes nest too deep; or they don't, and spell no manifest
abbrev pub IsBytesFault : List ℕ → Error → Type 0
IsBytesFault bytes e =
    (IsUtf8 bytes × IsDeepFault bytes e) ⊎ (IsShallow bytes × IsFromSlice bytes (Err e))

-- what an input still has is read to its end, and the lines of the manifest that it spells stand
-- behind what an output had
pub record ArePrinted (limit : ℕ) (input rest output more : Option (List ℕ)) : Type 0 where
  pub bytes : List ℕ
  pub text : Text
  pub read : Consumes input rest bytes
  pub whole : IsAtEnd rest
  pub lines : IsOfBytes limit bytes text
  pub written : Appends output more text

-- why printing fails: no memory, a fault of input or output, or that of the bytes which an input
-- still had, read to its end
abbrev pub IsPrintFault : Option (List ℕ) → Option (List ℕ) → Error → Type 0
IsPrintFault input rest e =
    (e ≡ Memory)
    ⊎ (IsOfOutput e
    ⊎ ((bytes : List ℕ) × Consumes input rest bytes × IsAtEnd rest × IsBytesFault bytes e))

-- some text that doesn't nest too deep reads as this manifest
abbrev pub IsSpelled : Manifest Value → Type 0
IsSpelled m =
    (text : Text) × IsUtf8 text × (is_too_deep text ≡ false)
    × ReadsAs text (manifest_meaning view) (manifest_reads any_tree) m

-- the text is that of a manifest which some text spells, as completing it among real files leaves
-- it
abbrev pub IsOfCompleted : Text → Type 0
IsOfCompleted text =
    (old : Manifest Value) × IsSpelled old × (new : Manifest Value)
    × IsCompleted old None real_roots any_root real_folders new
    × (text ≡ completion_text (held new))

-- why a text that doesn't nest too deep gives no completed manifest: its own fault, or the fault of
-- completing a manifest that it reads as
abbrev pub IsShallowFault : List ℕ → Text → Error → Type 0
IsShallowFault path text e =
    IsFromText (manifest_meaning view) (manifest_reads any_tree)
    (ManifestRefuses any_tree AnyRefuses) text (Err e)
    ⊎ ((read : Manifest Value)
    × (ReadsAs text (manifest_meaning view) (manifest_reads any_tree) read
    × IsShallowCompletionFault path (held read) None e))

-- why the file at this path gives no completed manifest: no memory, a fault of reading, a text that
-- nests too deep, or the fault of one that doesn't
abbrev pub IsFileFault : List ℕ → Error → Type 0
IsFileFault path e =
    (e ≡ Memory)
    ⊎ (IsInput e
    ⊎ ((text : Text) × (IsUtf8 text
    × (IsDeepFault text e ⊎ ((is_too_deep text ≡ false) × IsShallowFault path text e)))))
