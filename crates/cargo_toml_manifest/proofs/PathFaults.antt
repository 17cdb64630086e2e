-- Why a file could not be completed.
use Rattle.cargo_toml_manifest.proofs.Cited.{Data, Error, IsPathFault, IsSome, IsTextFault, IsUtf8, List, Manifest, ManifestMeaning, None, Option, Some, inr, refl, ℕ, ◌≡◌}

-- for a fault of its text
pub refused_in_file : {X M : Type 0} (path text : List ℕ) (meaning : Manifest X → ManifestMeaning M) (reads : Data → Option (ManifestMeaning M))
    (refuses : Data → Error → Type 0) (e : Error) → IsUtf8 text → IsTextFault path text meaning reads refuses e → IsPathFault path meaning reads refuses e
refused_in_file path text meaning reads refuses e utf8 h = inr (inr (text, (utf8, h)))

-- a path that isn't refused names a file
pub some_from : {X : Type 0} (o : Option X) → ¬ (o ≡ None) → IsSome o
some_from None h = absurd (h refl)
some_from (Some x) h = refl
