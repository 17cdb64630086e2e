use Rattle.cargo_toml_bench.proofs.Cited.{Data, Err, Error, Global, IsErrAnd, IsUtf8, List, ManifestMeaning, Memory, None, Ok, Option, ReadsRoot, Result, Some, String, Vec, any_tree, ap, arith, cases_Bool, document_reads, false≢true, is_some, manifest_reads, parse_document, refl, string_bytes, subst, sym, told_bytes, told_manifest, ℕ, ◌∙◌, ◌≡◌}
use Rattle.cargo_toml_bench.proofs.in_memory.read_text.Goals as goal

-- What is read for a root whose text is stated.
read_ok : (x : Vec ℕ Global × String Global) (path : List ℕ) (d : Option (ManifestMeaning Data))
    → document_reads (manifest_reads any_tree) (parse_document x.0.items) ≡ d → IsUtf8 x.0.items → string_bytes x.1 ≡ path
    → ReadsRoot (told_manifest d path) (Ok x)
read_ok x path None e u p = λ n h. false≢true (ap is_some (sym e ∙ h.1))
read_ok x path (Some m) e u p = grind (arith, cases_Bool (is_some m.workspace))

-- the bytes of a text, and its path
read_all : (x : Vec ℕ Global × String Global) (bytes path : List ℕ) → x.0.items ≡ bytes → IsUtf8 bytes → string_bytes x.1 ≡ path → ReadsRoot (told_bytes bytes path) (Ok x)
read_all x bytes path same u p = subst (λ bs. ReadsRoot (told_bytes bs path) (Ok x)) same (read_ok x path _ refl (subst IsUtf8 (sym same) u) p)

-- `Memory` answers whatever is stated
read_memory : (d : Option (ManifestMeaning Data)) (path : List ℕ) → ReadsRoot (told_manifest d path) (Err Memory)
read_memory None path = tt
read_memory (Some m) path = grind (arith, cases_Bool (is_some m.workspace))

read_err : (bytes path : List ℕ) (r : Result (Vec ℕ Global × String Global) Error) → IsErrAnd r (λ e. e ≡ Memory) → ReadsRoot (told_bytes bytes path) r
read_err bytes path (Ok x) h = absurd h
read_err bytes path (Err e) h = subst (λ f. ReadsRoot (told_bytes bytes path) (Err f)) (sym h) (read_memory _ path)

pub returns-in_err-text : goal.returns-in_err-text
returns-in_err-text c = read_err c.args.text.now c.args.path.now _ c.from_residual-in_err-text.ensures.1

pub returns : goal.returns
returns c = read_all _ c.args.text.now c.args.path.now (ap (λ v. v.items) c.into_bytes.ensures.value ∙ c.in_ok-text.ensures.ok) c.utf8.text c.in_ok-path.ensures.ok
