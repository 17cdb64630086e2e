-- What is read from a text and from bytes.
use Rattle.std.specs.Prelude.{◌⊎◌, ℕ, List, String, codes, Option, Some, None, Result}
use Rattle.std.specs.{Prelude.IsErrAnd, Prelude.IsUtf8, BTreeMap.BTreeMap}
use Rattle.std.specs.declared.alloc.Global.{Global}
use Rattle.toml.specs.Data.{Data, Members, table}
use Rattle.toml.specs.Errors.{IsWithin}
use Rattle.toml.specs.Parse.{parse_document}
use Rattle.toml.specs.View.{table_view}
use Rattle.toml.specs.declared.value.Value.{Value}
use Rattle.cargo_toml_parts.specs.declared.error.Error.{Error, out-Error}
use Rattle.cargo_toml_parts.specs.declared.error.Error.TheOpen.{Error-F}
use Rattle.cargo_toml_parts.specs.declared.error.ParseFault.{ParseFault}
use Rattle.cargo_toml_parts.specs.declared.error.ParseFault.TheVariants.{Toml, Shape}
use Rattle.cargo_toml_parts.specs.Faults.{IsOther, IsToml}
use Rattle.cargo_toml_parts.specs.Floats.{without_floats, FloatsOr}
use Rattle.cargo_toml_parts.specs.Reads.{IsReading}

-- what is read from the document that `toml` finds in a text, if it finds one
abbrev pub document_reads : {M : Type 0} → (Data → Option M) → Option Members → Option M
document_reads reads None = None
document_reads reads (Some ms) = without_floats reads (table ms)

-- the span of a fault that `toml` gave lies in the text
abbrev pub LiesIn : List ℕ → ParseFault → Type 0
LiesIn text (Toml e) = IsWithin text e
LiesIn text (Shape t) = Unit {0}

-- the error is a fault of the text, at a place in it
abbrev pub IsTomlIn : List ℕ → Error → Type 0
IsTomlIn text e =
    IsToml e
    × (elim (out-Error e) as (λ _. Type 0) [ Error-F.Parse f ↦ LiesIn text f | _ ↦ Unit {0} ])

-- what may be wrong with a text in which `toml` finds this document, if it finds one: the text, a
-- float at any depth, or else the tree
abbrev pub DocumentRefuses : (Data → Error → Type 0) → List ℕ → Option Members → Error → Type 0
DocumentRefuses refuses text None e = IsTomlIn text e
DocumentRefuses refuses text (Some ms) e = FloatsOr refuses (table ms) e

-- the answer to a text
abbrev pub IsFromText : {X M : Type 0} → (X → M) → (Data → Option M) → (Data → Error → Type 0)
    → List ℕ → Result X Error → Type 0
IsFromText meaning reads refuses text result =
    IsReading meaning (document_reads reads (parse_document text))
    (DocumentRefuses refuses text (parse_document text)) result

-- the answer to bytes: those that are no text are refused as such, others are answered as the
-- text that they spell
abbrev pub IsFromBytes : {X M : Type 0} → (X → M) → (Data → Option M) → (Data → Error → Type 0)
    → List ℕ → Result X Error → Type 0
IsFromBytes meaning reads refuses bytes result =
    ((¬ IsUtf8 bytes) × IsErrAnd result (IsOther (codes "utf8")))
    ⊎ (IsUtf8 bytes × IsFromText meaning reads refuses bytes result)

-- a table as a tree, and the answer to a text or to bytes of which the tree alone is wanted
abbrev pub tree_of : BTreeMap (String Global) Value → Data
tree_of t = table (table_view t)

abbrev pub IsTree : List ℕ → Result (BTreeMap (String Global) Value) Error → Type 0
IsTree text result = IsFromText tree_of (λ d. Some d) (λ d e. ⊥) text result

abbrev pub IsTreeOfBytes : List ℕ → Result (BTreeMap (String Global) Value) Error → Type 0
IsTreeOfBytes bytes result = IsFromBytes tree_of (λ d. Some d) (λ d e. ⊥) bytes result

-- the metadata of type `Value`: any tree that holds no float
abbrev pub any_tree : Data → Option Data
any_tree = without_floats (λ d. Some d)

-- what may be wrong with metadata of type `Value`: a float alone
abbrev pub AnyRefuses : Data → Error → Type 0
AnyRefuses = FloatsOr (λ d e. ⊥)
