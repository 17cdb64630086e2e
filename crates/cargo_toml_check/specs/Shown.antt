-- How a manifest is shown.
use Rattle.std.specs.Prelude.{◌≡◌, ◌⊎◌, ℕ, IsSome, List, Some, codes, false}
use Rattle.toml_datetime.specs.Text.{datetime_text}
use Rattle.serde_json.specs.Data as json
use Rattle.serde_json.specs.{Find.of_integer, Written.IsInOrder}
use Rattle.toml.specs.Data.{Data, Items, Members, array, boolean, datetime, float, integer, item}
use Rattle.toml.specs.Data.{member, no_items, no_members, string, table}
use Rattle.toml.specs.Parse.{parse_document}
use Rattle.toml.specs.Text.{IsDocumentText}
use Rattle.cargo_toml.specs.{Error.Error, Error.Memory, Faults.IsOther, Manifests.ManifestMeaning}
use Rattle.cargo_toml.specs.{Reread.IsTold, Reread.reread, Writes.Refuses}
use Rattle.cargo_toml.specs.{WrittenManifests.manifest_way, Ways.free_way}
use Rattle.cargo_toml_check.specs.Blamed.{reads}
use Rattle.cargo_toml_depth.specs.Nesting.{is_too_deep}

-- a tree as a value of JSON: a date is its text. A manifest's tree holds no float
abbrev mutual
  pub json_of : Data → json.Data
  json_of (string s) = json.string s
  json_of (integer z) = json.number (of_integer z)
  json_of (float x) = json.null
  json_of (boolean b) = json.boolean b
  json_of (datetime dt) = json.string (datetime_text dt)
  json_of (array ds) = json.array (json_items ds)
  json_of (table ms) = json.object (with_json ms json.no_members)

  pub json_items : Items → json.Items
  json_items no_items = json.no_items
  json_items (item d ds) = json.item (json_of d) (json_items ds)

  -- an object with each of these members put in its place
  pub with_json : Members → json.Members → json.Members
  with_json no_members js = js
  with_json (member k d ms) js = with_json ms (json.put k (json_of d) js)

-- the text is printed of a tree, doesn't nest too deep, and is TOML. Where the manifest meets the
-- conditions of reading again, the tree reads as the manifest, except the mark of what was
-- inherited, `workspace = false`, and the rule of version 0.0.0
pub record IsShown (m : ManifestMeaning Data) (text : List ℕ) : Type 0 where
  pub tree : Members
  pub printed : IsDocumentText false tree text
  pub shallow : is_too_deep text ≡ false
  pub parses : IsSome (parse_document text)
  pub again : IsTold m → reads (table tree) ≡ Some (reread m)

-- the same as JSON
pub record IsShownAsJson (m : ManifestMeaning Data) (text : List ℕ) : Type 0 where
  pub tree : Members
  pub printed : IsInOrder text (json_of (table tree))
  pub again : IsTold m → reads (table tree) ≡ Some (reread m)

-- why a manifest isn't shown: there was no memory, no tree is written of it, or no text of that
-- tree reads again
abbrev pub IsUnshown : ManifestMeaning Data → Error → Type 0
IsUnshown m e =
    (e ≡ Memory)
    ⊎ (Refuses (manifest_way free_way) m e ⊎ IsOther (codes "a manifest that can't be printed") e)
