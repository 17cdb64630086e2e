-- What a file system in memory states.
use Rattle.std.specs.Prelude.{ℕ, List, [], ◌∷◌, map, Bool, true, false, if◌then◌else◌, Option, Some}
use Rattle.std.specs.Prelude.{None, option_map, is_some, Result, Ok, Err, String, string_bytes}
use Rattle.std.specs.{Str.bytes_eq, declared.alloc.Global.Global}
use Rattle.toml.specs.{Data.Data, Parse.parse_document}
use Rattle.cargo_toml.specs.Told.{ToldRoot, root, no_root, open_root}
use Rattle.cargo_toml.specs.ToldFolders.{Told, names, absent, denied, open_path}
use Rattle.cargo_toml.specs.{Error.Error, FaultValues.fault_of, Manifests.ManifestMeaning}
use Rattle.cargo_toml.specs.{Manifests.manifest_reads, Texts.any_tree, Texts.document_reads}
use Rattle.cargo_toml_bench.specs.declared.in_memory.Answer.TheVariants.{Names, Denied, Open}
use Rattle.cargo_toml_bench.specs.{declared.in_memory.Answer.Answer, declared.in_memory.Root.Root}

abbrev pub told_of : Answer → Told
told_of (Names texts) = names (map string_bytes texts.items)
told_of (Denied fault) = denied (fault_of fault)
told_of (Open texts) = open_path

abbrev pub told_of_answer : Option Answer → Told
told_of_answer None = absent
told_of_answer (Some answer) = told_of answer

-- the first of the path counts
abbrev pub told_at : List (String Global × Answer) → List ℕ → Told
told_at [] path = absent
told_at (e ∷ es) path = if bytes_eq (string_bytes e.0) path then told_of e.1 else told_at es path

-- the manifest of a text, where it has a workspace
abbrev pub told_manifest : Option (ManifestMeaning Data) → List ℕ → ToldRoot
told_manifest None path = no_root
told_manifest (Some m) path = if is_some m.workspace then root m path else no_root

abbrev pub told_bytes : List ℕ → List ℕ → ToldRoot
told_bytes bytes path =
    told_manifest (document_reads (manifest_reads any_tree) (parse_document bytes)) path

abbrev pub told_text : Result (String Global) Error → List ℕ → ToldRoot
told_text (Err fault) path = open_root
told_text (Ok text) path = told_bytes (string_bytes text) path

abbrev pub told_by : Root → ToldRoot
told_by r = told_text r.text (string_bytes r.path)

abbrev pub told_of_root : Option Root → ToldRoot
told_of_root None = no_root
told_of_root (Some r) = told_by r

abbrev pub same_hint : Option (List ℕ) → Option (List ℕ) → Bool
same_hint None None = true
same_hint (Some a) (Some b) = bytes_eq a b
same_hint _ _ = false

-- the first of the hint counts
abbrev pub told_root_at : List Root → Option (List ℕ) → ToldRoot
told_root_at [] hint = no_root
told_root_at (r ∷ rs) hint =
    if same_hint (option_map string_bytes r.hint) hint then told_by r else told_root_at rs hint
