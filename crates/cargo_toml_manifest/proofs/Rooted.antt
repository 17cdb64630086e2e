-- What becomes of the bytes of a root, of what is stated of it, and of its fault.
use Rattle.cargo_toml_manifest.proofs.Cited.{AnswersRoot, Bool, Data, Err, Error, Fault, Global, IfOk, IsFromSlice, IsNoRoot, IsRootAt, IsRootIn, IsToldWith, List, Manifest, ManifestMeaning, MayHold, MayLose, Memory, None, Ok, Option, ReadsBy, ReadsRoot, RefusesBy, Result, Some, String, ToldRoot, Unsupported, Value, Vec, any_tree, ap, document_reads, false, fault_of}
use Rattle.cargo_toml_manifest.proofs.Cited.{fault_of-memory, heard, inl, inr, io, manifest_meaning, manifest_reads, memory_alone, no_root, not, not_a_workspace, open_root, option_map, parse_document, refl, root, string_bytes, subst, sym, true, view, workspace_integrity, wrap, ℕ, ◌&&◌, ◌∙◌, ◌≡◌, ◌⊎◌}
use Rattle.std.specs.Prelude.{is_some}

abbrev Read : Type 0
Read = Vec ℕ Global × String Global

abbrev Found : Type 0
Found = Manifest Value × String Global

-- the error is the other one with this path, or there was no memory for it
abbrev pub IsWrapped : Option (List ℕ) → Error → Error → Type 0
IsWrapped path own e = (e ≡ Memory) ⊎ (fault_of e ≡ wrap path (fault_of own))

-- `Memory` stays what it is
pub stays_memory : (path : Option (List ℕ)) (own e : Error) → own ≡ Memory → IsWrapped path own e → e ≡ Memory
stays_memory path own e memory (inl h) = h
stays_memory path own e memory (inr h) = memory_alone e (h ∙ ap (λ (f : Error). wrap path (fault_of f)) memory ∙ ap (wrap path) fault_of-memory)

-- a fault of this kind, once it has its path
pub told_with : (P : Fault → Type 0) (path : Option (List ℕ)) (own e : Error) → (own ≡ Memory) ⊎ P (fault_of own) → IsWrapped path own e → (e ≡ Memory) ⊎ IsToldWith path P e
told_with P path own e (inl memory) wrapped = inl (stays_memory path own e memory wrapped)
told_with P path own e (inr h) (inl memory) = inl memory
told_with P path own e (inr h) (inr same) = inr (fault_of own, (h, same))

same : {A : Type 0} (o : Option A) (x y : A) → o ≡ Some x → o ≡ Some y → x ≡ y
same o x y h k = cc

table_stays : {A B : Type 0} (f : A → B) (o : Option A) → is_some (option_map f o) ≡ is_some o
table_stays f None = refl
table_stays f (Some x) = refl

abbrev reads : List ℕ → Option (ManifestMeaning Data)
reads bytes = document_reads (manifest_reads any_tree) (parse_document bytes)

-- bytes that are told as a root are read as that
read_as_told : (bytes : List ℕ) (m : ManifestMeaning Data) (x : Manifest Value) → IsRootIn bytes m → IsFromSlice bytes (Ok x) → manifest_meaning view x ≡ m
read_as_told bytes m x told (inl h) = absurd h.1
read_as_told bytes m x told (inr h) = same (reads bytes) (manifest_meaning view x) m h.1 told.1

-- and they have no fault
no_fault : (bytes path : List ℕ) (m : ManifestMeaning Data) (e : Error) → IsRootIn bytes m → IsNoRoot bytes path e → e ≡ Memory
no_fault bytes path m e told (inl (own, inl h, same)) = absurd (h.0 told.0)
no_fault bytes path m e told (inl (own, inr (text, inl memory), same)) = stays_memory (Some path) own e memory (inr same)
no_fault bytes path m e told (inl (own, inr (text, inr h), same)) = let k : None ≡ Some m = sym h.0 ∙ told.1 in cc
no_fault bytes path m e told (inr (x, read, none, same)) =
    let is = read_as_told bytes m x told read in
    let there = ap (λ (n : ManifestMeaning Data). is_some n.workspace) is ∙ told.2 in
    let k = sym none ∙ sym (table_stays _ x.workspace) ∙ there in cc

-- the answer to bytes that were read
pub root_as_told : (told : ToldRoot) (r : Read) (found : Result Found Error) →
    ReadsRoot told (Ok r) → IsRootAt r.0.items (string_bytes r.1) found → AnswersRoot told found
root_as_told open_root r found h k = tt
root_as_told no_root r (Err e) h k = refl
root_as_told no_root r (Ok (x, path)) h (inl text, table, same) = absurd text.1
root_as_told no_root r (Ok (x, path)) h (inr text, table, same) =
    absurd (h (manifest_meaning view x) (text.0, text.1, table_stays _ x.workspace ∙ table))
root_as_told (root m path) r (Ok (x, at)) h k = (read_as_told r.0.items m x h.0 k.0, k.2 ∙ h.1)
root_as_told (root m path) r (Err e) h (inl memory) = memory
root_as_told (root m path) r (Err e) h (inr fault) = no_fault r.0.items (string_bytes r.1) m e h.0 fault

-- it may be found where it was read
pub found_there : (found : ManifestMeaning Data → List ℕ → Type 0) (r : Read) (answer : Result Found Error) →
    MayHold found r.0.items (string_bytes r.1) → IsRootAt r.0.items (string_bytes r.1) answer →
    IfOk answer (λ x. found (manifest_meaning view x.0) (string_bytes x.1))
found_there found r (Ok (x, path)) h (inl text, table, same) = absurd text.1
found_there found r (Ok (x, path)) h (inr text, table, same) =
    subst (λ (at : List ℕ). found (manifest_meaning view x) at) (sym same)
    (h (manifest_meaning view x) (text.0, text.1, table_stays _ x.workspace ∙ table))
found_there found r (Err e) h k = tt

-- what is heard where roots are read is heard where they are found
pub heard_found : (reads finds : Bool) (told : ToldRoot) (answer : Result Found Error) → finds && not reads ≡ false →
    AnswersRoot (heard reads told) answer → AnswersRoot (heard finds told) answer
heard_found true true told answer both h = h
heard_found true false (root m path) answer both h = tt
heard_found true false no_root answer both h = h
heard_found true false open_root answer both h = tt
heard_found false false told answer both h = h
heard_found false true told answer both h = cc

-- the answer where none were
pub unread_as_told : (told : ToldRoot) (hint : Option (List ℕ)) (own e : Error) → ReadsRoot told (Err own) → IsWrapped hint own e → AnswersRoot told (Err e)
unread_as_told open_root hint own e h k = tt
unread_as_told no_root hint own e h k = refl
unread_as_told (root m path) hint own e h k = stays_memory hint own e h k

-- the fault of bytes that hold no root: their own
pub faulty_bytes : (bytes path : List ℕ) (own e : Error) → (own ≡ Memory) ⊎ IsFromSlice bytes (Err own) → IsWrapped (Some path) own e → IsRootAt bytes path (Err e)
faulty_bytes bytes path own e (inl memory) wrapped = inl (stays_memory (Some path) own e memory wrapped)
faulty_bytes bytes path own e (inr h) (inl memory) = inl memory
faulty_bytes bytes path own e (inr h) (inr same) = inr (inl (own, h, same))

-- or that there is no workspace table
pub no_workspace_table : (bytes path : List ℕ) (m : Manifest Value) (own e : Error) → IsFromSlice bytes (Ok m) →
    is_some m.workspace ≡ false → fault_of own ≡ workspace_integrity not_a_workspace → IsWrapped (Some path) own e → IsRootAt bytes path (Err e)
no_workspace_table bytes path m own e h none text (inl memory) = inl memory
no_workspace_table bytes path m own e h none text (inr same) = inr (inr (m, h, none, same ∙ ap (wrap (Some path)) text))

-- a fault that may stand in place of a root may, wherever roots are found
lost_so : (finds : Bool) (may : Option (List ℕ) → Fault → Type 0) (hint : Option (List ℕ)) (fault : Fault) → may hint fault → MayLose finds may hint fault
lost_so true may hint fault h = h
lost_so false may hint fault h = inl h

-- and where none is ever read, nor found, one that says so
never_found : (reads finds : Bool) (may : Option (List ℕ) → Fault → Type 0) (hint : Option (List ℕ)) (fault : Fault) → finds && not reads ≡ false → reads ≡ false →
    fault ≡ wrap hint (io Unsupported) → MayLose finds may hint fault
never_found reads true may hint fault both none same = let k : true ≡ false = sym (ap not none) ∙ both in cc
never_found reads false may hint fault both none same = inr same

-- what becomes of bytes that were read may stand in place of the root, where it is a fault
pub lost_at : (reads finds : Bool) (may : Option (List ℕ) → Fault → Type 0) (hint : Option (List ℕ)) (r : Read) (found : Result Found Error) →
    ReadsBy reads may hint (Ok r) → IsRootAt r.0.items (string_bytes r.1) found → RefusesBy (MayLose finds may hint) found
lost_at reads finds may hint r (Ok x) h k = tt
lost_at reads finds may hint r (Err e) h (inl memory) = inl memory
lost_at reads finds may hint r (Err e) h (inr none) =
    elim (h e none) [ inl memory ↦ inl memory | inr fault ↦ inr (lost_so finds may hint (fault_of e) fault) ]

-- and so may the fault in their place, once it has the hint
pub lost_unread : (reads finds : Bool) (may : Option (List ℕ) → Fault → Type 0) (hint : Option (List ℕ)) (own e : Error) → finds && not reads ≡ false →
    ReadsBy reads may hint (Err own) → IsWrapped hint own e → (e ≡ Memory) ⊎ MayLose finds may hint (fault_of e)
lost_unread reads finds may hint own e both (inl memory) wrapped = inl (stays_memory hint own e memory wrapped)
lost_unread reads finds may hint own e both (inr h) (inl memory) = inl memory
lost_unread reads finds may hint own e both (inr (inl fault)) (inr same) =
    inr (lost_so finds may hint (fault_of e) (subst (λ (f : Fault). may hint f) (sym same) fault))
lost_unread reads finds may hint own e both (inr (inr unread)) (inr same) =
    inr (never_found reads finds may hint (fault_of e) both unread.0 (same ∙ ap (wrap hint) unread.1))
