-- What is read of a tree is what the text gives that spells it.
use Rattle.cargo_toml_manifest.proofs.Cited.{BTreeMap, Bool, Data, DocumentRefuses, Err, Error, Global, IsFromBytes, IsFromText, IsReading, IsTree, IsTreeOfBytes, List, Members, None, Ok, Option, RefusedIf, Result, Some, String, Value, document_reads, false, has_no_float, if◌then◌else◌, inl, inr, parse_document, refl, table, tree_of, true, ℕ, ◌≡◌}

-- a tree that is told holds no float, and is the one that is spelled
told : (b : Bool) (d e : Data) → (if b then Some d else None) ≡ Some e → (b ≡ true) × (d ≡ e)
told true d e same = (refl, cc)
told false d e same = absurd cc

on_tree : {X M : Type 0} (meaning : X → M) (reads : Data → Option M) (refuses : Data → Error → Type 0) (b : Bool) (d e : Data) (r : Result X Error) → b ≡ true → d ≡ e →
    IsReading meaning (reads e) (refuses e) r → IsReading meaning (if b then reads d else None) (λ f. RefusedIf b (refuses d) f) r
on_tree meaning reads refuses b d e (Ok x) no_float same read = rw (no_float, same) read
on_tree meaning reads refuses b d e (Err f) no_float same (inl memory) = inl memory
on_tree meaning reads refuses b d e (Err f) no_float same (inr (none, fault)) =
    inr (rw (no_float, same) none, rw (no_float, same) fault)

of_document : {X M : Type 0} (meaning : X → M) (reads : Data → Option M) (refuses : Data → Error → Type 0) (text : List ℕ) (document : Option Members) (t : BTreeMap (String Global) Value) (r : Result X Error) →
    document_reads (λ d. Some d) document ≡ Some (tree_of t) →
    IsReading meaning (reads (tree_of t)) (refuses (tree_of t)) r → IsReading meaning (document_reads reads document) (DocumentRefuses refuses text document) r
of_document meaning reads refuses text None t r given read = absurd cc
of_document meaning reads refuses text (Some ms) t r given read =
    let h = told (has_no_float (table ms)) (table ms) (tree_of t) given in
    on_tree meaning reads refuses (has_no_float (table ms)) (table ms) (tree_of t) r h.0 h.1 read

pub of_text : {X M : Type 0} (meaning : X → M) (reads : Data → Option M) (refuses : Data → Error → Type 0) (text : List ℕ) (t : BTreeMap (String Global) Value) (r : Result X Error) → IsTree text (Ok t) →
    IsReading meaning (reads (tree_of t)) (refuses (tree_of t)) r → IsFromText meaning reads refuses text r
of_text meaning reads refuses text t r given read = of_document meaning reads refuses text (parse_document text) t r given read

pub of_bytes : {X M : Type 0} (meaning : X → M) (reads : Data → Option M) (refuses : Data → Error → Type 0) (bytes : List ℕ) (t : BTreeMap (String Global) Value) (r : Result X Error) → IsTreeOfBytes bytes (Ok t) →
    IsReading meaning (reads (tree_of t)) (refuses (tree_of t)) r → IsFromBytes meaning reads refuses bytes r
of_bytes meaning reads refuses bytes t r (inl refused) read = absurd refused.1
of_bytes meaning reads refuses bytes t r (inr spelled) read =
    inr (spelled.0, of_text meaning reads refuses bytes t r spelled.1 read)
