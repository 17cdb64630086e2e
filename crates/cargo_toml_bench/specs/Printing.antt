-- A report as text.
use Rattle.std.specs.Prelude.{◌≡◌, ℕ, List, [], ◌∷◌, ◌++◌, codes}
use Rattle.std.specs.List.{flat_map}
use Rattle.toml.specs.Data.{Data}
use Rattle.cargo_toml.specs.{Manifests.ManifestMeaning, Limits.MAX_ITEMS, Action.Text}
use Rattle.cargo_toml.specs.Parsed.{parsed_table}
use Rattle.cargo_toml_bench.specs.{Reports.optional_keys, Reports.AreUnreferenced, Spelled.Spells}

-- the word, the name and the end of a line; the same for each name
abbrev pub line_with : Text → Text → Text
line_with word name = word ++ name ++ 10 ∷ []

abbrev pub lines_with : Text → List Text → Text
lines_with word names = flat_map (line_with word) names

-- a line for each optional dependency, then one for each unreferenced feature
abbrev pub report_text : List Text → List Text → Text
report_text optional unreferenced =
    lines_with (codes "optional ") optional ++ lines_with (codes "unreferenced ") unreferenced

-- the text is the report of the manifest that the bytes spell
pub record IsReport (bytes : List ℕ) (text : Text) : Type 0 where
  pub manifest : ManifestMeaning Data
  pub spelled : Spells bytes manifest
  pub unreferenced : List Text
  pub exact : AreUnreferenced (parsed_table MAX_ITEMS manifest) unreferenced
  pub whole : text ≡ report_text (optional_keys manifest.dependencies) unreferenced
