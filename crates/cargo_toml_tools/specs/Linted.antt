-- What `lint` finds of a manifest.
use Rattle.std.specs.Prelude.{◌↔◌, List}
use Rattle.cargo_toml.specs.{Action.Text, Limits.MAX_ITEMS, Manifests.ManifestMeaning}
use Rattle.cargo_toml_lint.specs.{Findings.HoldsOf, Findings.IsFound, declared.finding.Code.Code}
use Rattle.cargo_toml_lint.specs.{declared.finding.Finding.Finding}

-- the findings are those of this manifest: each where its code holds of its feature and its text,
-- and no others
abbrev pub AreFindingsOf : {M : Type 0} → ManifestMeaning M → List Finding → Type 0
AreFindingsOf m xs = (c : Code) (f t : Text) → IsFound xs c f t ↔ HoldsOf MAX_ITEMS m c f t
