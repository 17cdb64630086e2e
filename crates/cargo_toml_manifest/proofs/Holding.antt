-- What is held of a manifest that was read is read as that manifest.
use Rattle.cargo_toml_manifest.proofs.Cited.{AnyRefuses, Data, DocumentRefuses, Err, Error, HeldManifest, IfOk, IsFromBytes, IsFromText, IsReading, List, Manifest, ManifestMeaning, ManifestRefuses, Memory, Ok, Option, Result, Some, Value, any_tree, ap, document_reads, inl, inr, manifest_meaning, manifest_reads, parse_document, sym, view, ℕ, ◌∙◌, ◌≡◌}
use Rattle.std.specs.Prelude.{IfErr}

abbrev meaning_held : HeldManifest → ManifestMeaning Data
meaning_held h = manifest_meaning view h.manifest.value

module _ (m : Manifest Value) (r : Result HeldManifest Error) (same : IfOk r (λ h. h.manifest.value ≡ m)) (refused : IfErr r (λ e. e ≡ Memory)) where
  holds : (given : Option (ManifestMeaning Data)) (fault : Error → Type 0) → given ≡ Some (manifest_meaning view m) → IsReading meaning_held given fault r
  holds given fault read = go r same refused
    where
      go : (r : Result HeldManifest Error) → IfOk r (λ h. h.manifest.value ≡ m) → IfErr r (λ e. e ≡ Memory) → IsReading meaning_held given fault r
      go (Ok h) is none = read ∙ ap (λ (x : Manifest Value). Some (manifest_meaning view x)) (sym is)
      go (Err e) none memory = inl memory

  pub holds_text : (text : List ℕ)
      → IsFromText (manifest_meaning view) (manifest_reads any_tree) (ManifestRefuses any_tree AnyRefuses) text (Ok m)
      → IsFromText meaning_held (manifest_reads any_tree) (ManifestRefuses any_tree AnyRefuses) text r
  holds_text text read = holds (document_reads (manifest_reads any_tree) (parse_document text)) (DocumentRefuses (ManifestRefuses any_tree AnyRefuses) text (parse_document text)) read

  pub holds_bytes : (bytes : List ℕ)
      → IsFromBytes (manifest_meaning view) (manifest_reads any_tree) (ManifestRefuses any_tree AnyRefuses) bytes (Ok m)
      → IsFromBytes meaning_held (manifest_reads any_tree) (ManifestRefuses any_tree AnyRefuses) bytes r
  holds_bytes bytes (inl b) = absurd b.1
  holds_bytes bytes (inr b) = inr (b.0, holds_text bytes b.1)
