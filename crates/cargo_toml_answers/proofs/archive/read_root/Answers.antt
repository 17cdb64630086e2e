use Rattle.std.proofs.Common.{Err, Global, IsErrAnd, IsUtf8, List, None, Ok, Option, Result, Some, String, Vec, ap, arith, is_some, refl, string_bytes, subst, sym, ℕ, ◌∙◌, ◌≡◌}
use Rattle.std.proofs.lemmas.Bool.{cases_Bool, false≢true}
use Rattle.toml.specs.{Data.Data, Parse.parse_document}
use Rattle.cargo_toml.specs.Manifests.{ManifestMeaning, manifest_reads}
use Rattle.cargo_toml.specs.{Error.Error, Error.Memory, Texts.any_tree, Texts.document_reads, Told.ReadsRoot, Told.ToldRoot}
use Rattle.cargo_toml_answers.specs.Archived.{told_workspace}
use Rattle.cargo_toml_answers.proofs.archive.read_root.Goals as goal

abbrev told_text : List ℕ → List ℕ → ToldRoot
told_text bytes path = told_workspace (document_reads (manifest_reads any_tree) (parse_document bytes)) path

-- What is read for a root whose text is stated.
read_ok : (x : Vec ℕ Global × String Global) (path : List ℕ) (d : Option (ManifestMeaning Data))
    → document_reads (manifest_reads any_tree) (parse_document x.0.items) ≡ d → IsUtf8 x.0.items → string_bytes x.1 ≡ path
    → ReadsRoot (told_workspace d path) (Ok x)
read_ok x path None e u p = λ n h. false≢true (ap is_some (sym e ∙ h.1))
read_ok x path (Some m) e u p = grind (arith, cases_Bool (is_some m.workspace))

-- the bytes of a text, and its path
read_all : (x : Vec ℕ Global × String Global) (bytes path : List ℕ) → x.0.items ≡ bytes → IsUtf8 bytes → string_bytes x.1 ≡ path → ReadsRoot (told_text bytes path) (Ok x)
read_all x bytes path same u p = subst (λ bs. ReadsRoot (told_text bs path) (Ok x)) same (read_ok x path _ refl (subst IsUtf8 (sym same) u) p)

-- `Memory` answers whatever is stated
read_memory : (d : Option (ManifestMeaning Data)) (path : List ℕ) → ReadsRoot (told_workspace d path) (Err Memory)
read_memory None path = tt
read_memory (Some m) path = grind (arith, cases_Bool (is_some m.workspace))

read_err : (bytes path : List ℕ) (r : Result (Vec ℕ Global × String Global) Error) → IsErrAnd r (λ e. e ≡ Memory) → ReadsRoot (told_text bytes path) r
read_err bytes path (Ok x) h = absurd h
read_err bytes path (Err e) h = subst (λ f. ReadsRoot (told_text bytes path) (Err f)) (sym h) (read_memory _ path)

pub returns-in_err-text : goal.returns-in_err-text
returns-in_err-text c = read_err c.args.text.now c.args.path.now _ c.from_residual-in_err-text.ensures.1

pub returns : goal.returns
returns c = read_all _ c.args.text.now c.args.path.now (ap (λ v. v.items) c.into_bytes.ensures.value ∙ c.in_ok-text.ensures.ok) c.utf8.text c.in_ok-path.ensures.ok
