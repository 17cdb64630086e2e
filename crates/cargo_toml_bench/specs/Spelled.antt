-- Which manifest bytes spell, and why they spell none.
use Rattle.std.specs.Prelude.{◌≡◌, ◌⊎◌, ℕ, List, Option, Some, None, IsUtf8, codes}
use Rattle.std.specs.declared.io.Error.{Error as IoError}
use Rattle.toml.specs.{Data.Data, Parse.parse_document}
use Rattle.cargo_toml.specs.Manifests.{ManifestMeaning, ManifestRefuses, manifest_reads}
use Rattle.cargo_toml.specs.Texts.{AnyRefuses, DocumentRefuses, any_tree, document_reads}
use Rattle.cargo_toml.specs.{Error.Error, Error.Io, Error.Memory, Faults.IsOther}

module _ {M : Type 0} (tree_reads : Data → Option M) where
  -- the bytes are the text of a manifest that holds m, with metadata that are read so
  pub record IsTextOf (bytes : List ℕ) (m : ManifestMeaning M) : Type 0 where
    pub text : IsUtf8 bytes
    pub reads : document_reads (manifest_reads tree_reads) (parse_document bytes) ≡ Some m

  -- why bytes give none: there was no memory, they are no text, or their document is refused with
  -- this fault
  abbrev pub RefusesText : (Data → Error → Type 0) → List ℕ → Error → Type 0
  RefusesText refuses bytes e =
      (e ≡ Memory)
      ⊎ ((¬ IsUtf8 bytes) × IsOther (codes "utf8") e)
      ⊎ (IsUtf8 bytes
      × (document_reads (manifest_reads tree_reads) (parse_document bytes) ≡ None)
      × DocumentRefuses (ManifestRefuses tree_reads refuses) bytes (parse_document bytes) e)

-- the bytes are the text of a manifest that holds m, with metadata of any kind
abbrev pub Spells : List ℕ → ManifestMeaning Data → Type 0
Spells bytes m = IsTextOf any_tree bytes m

abbrev pub IsManifest : List ℕ → Type 0
IsManifest bytes = (m : ManifestMeaning Data) × Spells bytes m

abbrev pub RefusesBytes : List ℕ → Error → Type 0
RefusesBytes bytes e = RefusesText any_tree AnyRefuses bytes e

-- why nothing is printed: that, or the output couldn't be written
abbrev pub RefusesToPrint : List ℕ → Error → Type 0
RefusesToPrint bytes e = ((fault : IoError) × (e ≡ Io fault)) ⊎ RefusesBytes bytes e
