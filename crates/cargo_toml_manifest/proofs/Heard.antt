-- What was told of folders, as it is kept, and that it is all that is asked for.
use Rattle.cargo_toml_manifest.proofs.Cited.{AnswerFits, Answers, AnswersNames, BTreeSet, Bool, Err, Error, ErrorKind, Fault, Fits, Global, Grows, Has, HasAll, HasEach, HasProducts, HasRoot, HashSet, IfErr, IsErrAnd, IsHeard, IsOneOf, List, Listed, MayTell, MayTellOneOf, Memory, Name, Named, None, NotFound, Ok, Option, RefusesBy, Result, Seen, Some, Sorts, String, Tells, Told, Wanted, [], absent}
use Rattle.cargo_toml_manifest.proofs.Cited.{and_then, answer_at, ap, arith, around, around_in, below, bytes_eq, bytes_eq-Decides, codes, cond, denied, each_named, entries_at, entries_if, false, fault_of, fault_of-memory, faulty, filled, filled_by, filter, get_or, has_text, in_folder, inl, inr, io, is_absence, is_not_found, is_some, is_source, length}
use Rattle.cargo_toml_manifest.proofs.Cited.{make_around, map, map_push, may_be_folder, named_by, named_in, names, names_at, names_in, open_path, own, pair, refl, root_names, seen, seen_as, string_bytes, subst, suc, sym, take, take_more, texts_in, texts_in-itself, texts_in-ordered, true, unclear, zero, ℕ, ◌&&◌, ◌++◌, ◌+◌, ◌<◌, ◌∙◌, ◌∷◌, ◌≡◌, ◌⊎◌}
use Rattle.std.proofs.Common.{unwrap_or}
use Rattle.std.proofs.Common.{not}

pub root_is_answer : (t : Told) (ns : List Name) → root_names (filled_by t (Some ns)) ≡ seen ns → AnswerFits t ns
root_is_answer (names ts) ns h = h
root_is_answer absent ns h = cc
root_is_answer (denied k) ns h = cc
root_is_answer open_path ns h = h

-- answers stay
pub grows-on : (told : Name → Told) (a b c : Answers) → Grows told a b → Grows told b c → Grows told a c
grows-on told a b c g h = ((λ p ns e. h.0 p ns (g.0 p ns e)), (λ f. h.1 (g.1 f)))

-- the answer that is there
some_of : (r : Option (List Name)) → is_some r ≡ true → r ≡ Some (unwrap_or r [])
some_of None h = cc
some_of (Some ns) h = refl

pub has_some : (a : Answers) (p : Name) → Has a p → answer_at a p ≡ Some (names_in a p)
has_some a p h = some_of (answer_at a p) h

pub has-grows : (told : Name → Told) (a b : Answers) (p : Name) → Grows told a b → Has a p → Has b p
has-grows told a b p g h = ap is_some (g.0 p (names_in a p) (has_some a p h))

pub has_each-grows : (told : Name → Told) (a b : Answers) (ps : List Name) → Grows told a b → HasEach a ps → HasEach b ps
has_each-grows told a b [] g h = tt
has_each-grows told a b (p ∷ ps) g h = (has-grows told a b p g h.0, has_each-grows told a b ps g h.1)

pub has_each-push : (a : Answers) (ps : List Name) (p : Name) → HasEach a ps → Has a p → HasEach a (ps ++ p ∷ [])
has_each-push a [] p h k = (k, tt)
has_each-push a (q ∷ ps) p h k = (h.0, has_each-push a ps p h.1 k)

pub names_in-grows : (told : Name → Told) (a b : Answers) (p : Name) → Grows told a b → Has a p → names_in a p ≡ names_in b p
names_in-grows told a b p g h = sym (ap (λ (r : Option (List Name)). unwrap_or r []) (g.0 p (names_in a p) (has_some a p h)))

pub has_products-grows : (told : Name → Told) (a b : Answers) (wanted : Bool) (folder : Name) → Grows told a b → HasProducts wanted folder a → HasProducts wanted folder b
has_products-grows told a b false folder g h = tt
has_products-grows told a b true folder g h = (has-grows told a b folder g h.0, subst (λ (ns : List Name). HasEach b (below folder ns)) (names_in-grows told a b folder g h.0) (has_each-grows told a b (below folder (names_in a folder)) g h.1))

-- one answer more
none_then_some : (r : Option (List Name)) (ns : List Name) {A : Type 0} → is_some r ≡ false → r ≡ Some ns → A
none_then_some None ns h e = cc
none_then_some (Some ms) ns h e = cc

module _ (told : Name → Told) (old new : Answers) (path : Name) (ns : List Name) (missing : is_some (answer_at old path) ≡ false) (after : (p : Name) → answer_at new p ≡ cond (bytes_eq path p) (Some ns) (answer_at old p)) where
  stays : (p : Name) (ms : List Name) → answer_at old p ≡ Some ms → (b : Bool) → bytes_eq path p ≡ b → cond b (Some ns) (answer_at old p) ≡ Some ms
  stays p ms e true h = none_then_some (answer_at old path) ms missing (ap (λ (q : Name). answer_at old q) ((bytes_eq-Decides path p).0 h) ∙ e)
  stays p ms e false h = e

  fits : AnswerFits (told path) ns → Fits told old → (p : Name) (ms : List Name) (b : Bool) → bytes_eq path p ≡ b → cond b (Some ns) (answer_at old p) ≡ Some ms → AnswerFits (told p) ms
  fits one f p ms true h e = let s : path ≡ p = (bytes_eq-Decides path p).0 h in let same : ns ≡ ms = cc in subst (λ (q : Name). AnswerFits (told q) ms) s (subst (λ (xs : List Name). AnswerFits (told path) xs) same one)
  fits one f p ms false h e = f p ms e

  pub grows-one : AnswerFits (told path) ns → Grows told old new
  grows-one one = ((λ p ms e. after p ∙ stays p ms e (bytes_eq path p) refl), (λ f p ms e. fits one f p ms (bytes_eq path p) refl (sym (after p) ∙ e)))

  pub has-one : answer_at new path ≡ Some ns
  has-one = after path ∙ ap (λ (b : Bool). cond b (Some ns) (answer_at old path)) (own path)

-- faults
pub one_of-left : (f : Fault) (fs gs : List Fault) → IsOneOf f fs → IsOneOf f (fs ++ gs)
one_of-left f [] gs h = absurd h
one_of-left f (g ∷ fs) gs (inl e) = inl e
one_of-left f (g ∷ fs) gs (inr h) = inr (one_of-left f fs gs h)

pub one_of-right : (f : Fault) (fs gs : List Fault) → IsOneOf f gs → IsOneOf f (fs ++ gs)
one_of-right f [] gs h = h
one_of-right f (g ∷ fs) gs h = inr (one_of-right f fs gs h)

pub tell-as : {A B : Type 0} (g : A → B) (s : Seen A) (f : Fault) → MayTell s f → MayTell (seen_as g s) f
tell-as g (seen x) f h = h
tell-as g (faulty fs) f h = h
tell-as g unclear f h = h

pub tell-left : {A B : Type 0} (s : Seen A) (t : Seen B) (f : Fault) → MayTell s f → MayTell (pair s t) f
tell-left (seen x) t f h = absurd h
tell-left (faulty fs) (seen y) f h = h
tell-left (faulty fs) (faulty gs) f h = one_of-left f fs gs h
tell-left (faulty fs) unclear f h = tt
tell-left unclear t f h = tt

pub tell-right : {A B : Type 0} (s : Seen A) (t : Seen B) (f : Fault) → MayTell t f → MayTell (pair s t) f
tell-right (seen x) t f h = tell-as (λ y. (x, y)) t f h
tell-right (faulty fs) (seen y) f h = absurd h
tell-right (faulty fs) (faulty gs) f h = one_of-right f fs gs h
tell-right (faulty fs) unclear f h = tt
tell-right unclear t f h = tt

tells-by : {A B : Type 0} (s : Seen A) (t : Seen B) (e : Error) → ((f : Fault) → MayTell s f → MayTell t f) → Tells s e → Tells t e
tells-by s t e g (inl m) = inl m
tells-by s t e g (inr h) = inr (g (fault_of e) h)

-- a fault of a part is handed on as one of the whole
pub tells-on : {A B T : Type 0} (s : Seen A) (t : Seen B) (r : Result T Error) (e : Error) →
    IsErrAnd r (λ y. y ≡ e) → ((f : Fault) → MayTell s f → MayTell t f) → Tells s e → IfErr r (Tells t)
tells-on s t (Ok x) e is g h = tt
tells-on s t (Err y) e is g h = subst (λ (x : Error). Tells t x) (sym is) (tells-by s t e g h)

pub tell_one : (told : Name → Told) (xs : List (String Global)) (i : ℕ) (x d : String Global) (f : Fault) → i < length xs → x ≡ get_or xs i d → MayTell (names_at (told (string_bytes x))) f → MayTellOneOf told (map string_bytes xs) f
tell_one told [] i x d f below read h = absurd (omega arith)
tell_one told (y ∷ ys) zero x d f below read h = inl (subst (λ (z : String Global). MayTell (names_at (told (string_bytes z))) f) read h)
tell_one told (y ∷ ys) (suc i) x d f below read h = inr (tell_one told ys i x d f (omega arith) read h)

pub tells-one : (told : Name → Told) (xs : List (String Global)) (i : ℕ) (x d : String Global) (e : Error) → i < length xs → x ≡ get_or xs i d → Tells (names_at (told (string_bytes x))) e → (e ≡ Memory) ⊎ MayTellOneOf told (map string_bytes xs) (fault_of e)
tells-one told xs i x d e below read (inl m) = inl m
tells-one told xs i x d e below read (inr h) = inr (tell_one told xs i x d (fault_of e) below read h)

pub has_each-more : (a : Answers) (xs : List (String Global)) (i : ℕ) (x : String Global) → i < length xs → x ≡ get_or xs i x → HasEach a (map string_bytes (take i xs)) → Has a (string_bytes x) → HasEach a (map string_bytes (take (i + 1) xs))
has_each-more a xs i x below read h k = rw (take_more xs i x below, ← read, map_push (λ (s : String Global). string_bytes s) (take i xs) x) (has_each-push a (map string_bytes (take i xs)) (string_bytes x) h k)

-- What an implementor answers of a folder, as names in order.

pub root_heard : {S : Type 0} (t : Told) (set : HashSet (String Global) S) (s : BTreeSet (String Global)) →
    AnswersNames t (Ok set) → Sorts set s → root_names (filled_by t (Some (texts_in s))) ≡ seen (texts_in s)
root_heard (names ts) set s told sorts = ap seen (texts_in-ordered s ts sorts.0 (λ x. sorts.1 x ∙ told x))
root_heard absent set s told sorts = absurd told
root_heard (denied fault) set s told sorts = absurd told
root_heard open_path set s told sorts = ap seen (texts_in-itself s sorts.0)

pub heard_set : {S : Type 0} (t : Told) (set : HashSet (String Global) S) (s : BTreeSet (String Global)) →
    AnswersNames t (Ok set) → Sorts set s → AnswerFits t (texts_in s)
heard_set t set s told sorts = root_is_answer t (texts_in s) (root_heard t set s told sorts)

absent_kind : (kind : ErrorKind) → is_not_found kind ≡ true → kind ≡ NotFound
absent_kind NotFound h = refl
absent_kind kind h = cc

absent_fault : (fault : Fault) → is_absence fault ≡ true → fault ≡ io NotFound
absent_fault (io kind) h = ap io (absent_kind kind h)
absent_fault fault h = cc

-- a fault is reported, except an absent folder
denied_tells : (fault : Fault) (e : Error) (b : Bool) → is_absence fault ≡ b → fault_of e ≡ fault →
    ¬ (fault_of e ≡ io NotFound) →
    Tells (cond {A = Seen (List Name)} b (seen []) (faulty (fault ∷ []))) e
denied_tells fault e true is f other = absurd (other (f ∙ absent_fault fault is))
denied_tells fault e false is f other = inr (inl f)

pub fault_tells : (S : Type 0) (t : Told) (e : Error) → AnswersNames {S = S} t (Err e) → ¬ (fault_of e ≡ io NotFound) →
    Tells (names_at t) e
fault_tells S (names ts) e told other = inl told
fault_tells S absent e (inl m) other = inl m
fault_tells S absent e (inr f) other = absurd (other f)
fault_tells S (denied fault) e (inl m) other = inl m
fault_tells S (denied fault) e (inr f) other = denied_tells fault e (is_absence fault) refl f other
fault_tells S open_path e told other = inr tt

-- `Memory` says of no folder that it isn't there
memory_is_there : (e : Error) → e ≡ Memory → ¬ (fault_of e ≡ io NotFound)
memory_is_there e m h = let clash = sym fault_of-memory ∙ ap fault_of (sym m) ∙ h in cc

-- a folder that isn't there counts as empty
absent_is_empty : (S : Type 0) (t : Told) (e : Error) → AnswersNames {S = S} t (Err e) → fault_of e ≡ io NotFound →
    AnswerFits t []
absent_is_empty S (names ts) e told is = absurd (memory_is_there e told is)
absent_is_empty S absent e told is = refl
absent_is_empty S (denied fault) e (inl m) is = absurd (memory_is_there e m is)
absent_is_empty S (denied fault) e (inr f) is = rw (sym f ∙ is) refl
absent_is_empty S open_path e told is = refl

pub listed_by : {S : Type 0} (t : Told) (answer : Result (HashSet (String Global) S) Error) (result : Result (BTreeSet (String Global)) Error) →
    AnswersNames t answer → IsHeard answer result → Listed t result
listed_by t (Ok set) (Ok s) told h = heard_set t set s told h
listed_by t (Ok set) (Err e) told h = inl h
listed_by {S} t (Err fault) (Ok s) told h = rw h.1 (absent_is_empty S t fault told h.0)
listed_by {S} t (Err fault) (Err e) told h = rw h.0 (fault_tells S t fault told h.1)

pub refused_by : {S : Type 0} (may : Fault → Type 0) (answer : Result (HashSet (String Global) S) Error) (result : Result (BTreeSet (String Global)) Error) →
    RefusesBy may answer → IsHeard answer result → RefusesBy may result
refused_by may (Ok set) (Ok s) r h = tt
refused_by may (Ok set) (Err e) r h = inl h
refused_by may (Err fault) (Ok s) r h = tt
refused_by may (Err fault) (Err e) r h = rw h.0 r

-- All that was asked for.

abbrev source_named : Name → Seen Named
source_named n = seen (record { name = n; has_main = false })

-- a fault below a directory
each-step : (told : Name → Told) (folder n : Name) (ns : List Name) (f : Fault) (b : Bool) → (MayTellOneOf told (below folder ns) f → MayTell (each_named told folder ns) f) →
    MayTellOneOf told (map (in_folder folder) (cond (not b) (n ∷ filter may_be_folder ns) (filter may_be_folder ns))) f →
    MayTell (seen_as (λ (e : Named × List Named). e.0 ∷ e.1) (pair (cond b (seen (record { name = n; has_main = false })) (seen_as (named_by n) (names_at (told (in_folder folder n))))) (each_named told folder ns))) f
each-step told folder n ns f true next h = tell-as (λ (e : Named × List Named). e.0 ∷ e.1) _ f (tell-right ((source_named n)) (each_named told folder ns) f (next h))
each-step told folder n ns f false next (inl h) = tell-as (λ (e : Named × List Named). e.0 ∷ e.1) _ f (tell-left (seen_as (named_by n) (names_at (told (in_folder folder n)))) (each_named told folder ns) f (tell-as (named_by n) (names_at (told (in_folder folder n))) f h))
each-step told folder n ns f false next (inr h) = tell-as (λ (e : Named × List Named). e.0 ∷ e.1) _ f (tell-right (seen_as (named_by n) (names_at (told (in_folder folder n)))) (each_named told folder ns) f (next h))

pub each-told : (told : Name → Told) (folder : Name) (ns : List Name) (f : Fault) → MayTellOneOf told (below folder ns) f → MayTell (each_named told folder ns) f
each-told told folder [] f h = h
each-told told folder (n ∷ ns) f h = each-step told folder n ns f (is_source n) (each-told told folder ns f) h

pub told_or_open : (t : Told) (ns : List Name) → AnswerFits t ns → (names_at t ≡ unclear) ⊎ (names_at t ≡ seen ns)
told_or_open (names ts) ns h = inr h
told_or_open absent ns h = inr h
told_or_open (denied k) ns h = inr h
told_or_open open_path ns h = inl refl

pub products-told : (told : Name → Told) (folder : Name) (ns : List Name) (f : Fault) → AnswerFits (told folder) ns → MayTellOneOf told (below folder ns) f → MayTell (entries_at told true folder) f
products-told told folder ns f one h = elim (told_or_open (told folder) ns one)
    [ inl e ↦ rw e tt | inr e ↦ rw e (each-told told folder ns f h) ]

-- what was heard
pub heard : (told : Name → Told) (ans : Answers) (p : Name) → Fits told ans → Has ans p → names_at (filled told ans p) ≡ seen (names_in ans p)
heard told ans p f h = let is = has_some ans p h in ap (λ (r : Option (List Name)). names_at (filled_by (told p) r)) is ∙ f p (names_in ans p) is

each-heard-step : (told : Name → Told) (ans : Answers) (folder n : Name) (ns : List Name) (b : Bool) → Fits told ans →
    (HasEach ans (below folder ns) → each_named (filled told ans) folder ns ≡ seen (map (named_in ans folder) ns)) →
    HasEach ans (map (in_folder folder) (cond (not b) (n ∷ filter may_be_folder ns) (filter may_be_folder ns))) →
    seen_as (λ (e : Named × List Named). e.0 ∷ e.1) (pair (cond b (seen (record { name = n; has_main = false })) (seen_as (named_by n) (names_at (filled told ans (in_folder folder n))))) (each_named (filled told ans) folder ns))
    ≡ seen ((record { name = n; has_main = not b && has_text (names_in ans (in_folder folder n)) (codes "main.rs") }) ∷ map (named_in ans folder) ns)
each-heard-step told ans folder n ns true f next h = ap (λ (s : Seen (List Named)). seen_as (λ (e : Named × List Named). e.0 ∷ e.1) (pair ((source_named n)) s)) (next h)
each-heard-step told ans folder n ns false f next h =
    ap (λ (t : Seen (List Name)). seen_as (λ (e : Named × List Named). e.0 ∷ e.1) (pair (seen_as (named_by n) t) (each_named (filled told ans) folder ns))) (heard told ans (in_folder folder n) f h.0)
    ∙ ap (λ (s : Seen (List Named)). seen_as (λ (e : Named × List Named). e.0 ∷ e.1) (pair (seen (named_by n (names_in ans (in_folder folder n)))) s)) (next h.1)

each-heard : (told : Name → Told) (ans : Answers) (folder : Name) (ns : List Name) → Fits told ans → HasEach ans (below folder ns) → each_named (filled told ans) folder ns ≡ seen (map (named_in ans folder) ns)
each-heard told ans folder [] f h = refl
each-heard told ans folder (n ∷ ns) f h = each-heard-step told ans folder n ns (is_source n) f (each-heard told ans folder ns f) h

pub products-heard : (told : Name → Told) (ans : Answers) (wanted : Bool) (folder : Name) → Fits told ans → HasProducts wanted folder ans → entries_at (filled told ans) wanted folder ≡ seen (entries_if wanted ans folder)
products-heard told ans false folder f h = refl
products-heard told ans true folder f h = ap (λ (s : Seen (List Name)). and_then s (each_named (filled told ans) folder)) (heard told ans folder f h.0) ∙ each-heard told ans folder (names_in ans folder) f h.1

-- a fault of one is a fault of all
module _ (told : Name → Told) (wanted : Wanted) (f : Fault) where
  pub by-root : MayTell (root_names (told [])) f → MayTell (around told wanted) f
  by-root h = tell-as make_around _ f (tell-left _ _ f (tell-left _ _ f h))

  pub by-src : MayTell (names_at (told (codes "src"))) f → MayTell (around told wanted) f
  by-src h = tell-as make_around _ f (tell-left _ _ f (tell-right (root_names (told [])) _ f h))

  pub by-bins : MayTell (entries_at told wanted.bins (codes "src/bin")) f → MayTell (around told wanted) f
  by-bins h = tell-as make_around _ f (tell-right (pair (root_names (told [])) (names_at (told (codes "src")))) _ f (tell-left _ _ f (tell-left _ _ f h)))

  pub by-examples : MayTell (entries_at told wanted.examples (codes "examples")) f → MayTell (around told wanted) f
  by-examples h = tell-as make_around _ f (tell-right (pair (root_names (told [])) (names_at (told (codes "src")))) _ f (tell-left _ _ f (tell-right (entries_at told wanted.bins (codes "src/bin")) _ f h)))

  pub by-tests : MayTell (entries_at told wanted.tests (codes "tests")) f → MayTell (around told wanted) f
  by-tests h = tell-as make_around _ f (tell-right (pair (root_names (told [])) (names_at (told (codes "src")))) _ f (tell-right (pair (entries_at told wanted.bins (codes "src/bin")) (entries_at told wanted.examples (codes "examples"))) _ f (tell-left _ _ f h)))

  pub by-benches : MayTell (entries_at told wanted.benches (codes "benches")) f → MayTell (around told wanted) f
  by-benches h = tell-as make_around _ f (tell-right (pair (root_names (told [])) (names_at (told (codes "src")))) _ f (tell-right (pair (entries_at told wanted.bins (codes "src/bin")) (entries_at told wanted.examples (codes "examples"))) _ f (tell-right (entries_at told wanted.tests (codes "tests")) _ f h)))

pub is_answer-here : (told : Name → Told) (ans : Answers) (p : Name) → Fits told ans → Has ans p → AnswerFits (told p) (names_in ans p)
is_answer-here told ans p f h = f p (names_in ans p) (has_some ans p h)

pub products-tells : (told : Name → Told) (wanted : Bool) (folder : Name) (ns : List Name) (e : Error) → wanted ≡ true → AnswerFits (told folder) ns → (e ≡ Memory) ⊎ MayTellOneOf told (below folder ns) (fault_of e) → Tells (entries_at told wanted folder) e
products-tells told wanted folder ns e is one (inl m) = inl m
products-tells told wanted folder ns e is one (inr h) = inr (rw is (products-told told folder ns (fault_of e) one h))

pub has_products-here : (ans : Answers) (wanted : Bool) (folder : Name) → wanted ≡ true → Has ans folder → HasEach ans (below folder (names_in ans folder)) → HasProducts wanted folder ans
has_products-here ans wanted folder is h k = rw is (h, k)

none_at : (ans : Answers) (p : Name) → ans ≡ [] → answer_at ans p ≡ None
none_at ans p e = ap (λ (given : Answers). answer_at given p) e

none_fits : (told : Name → Told) (ans : Answers) → ans ≡ [] → Fits told ans
none_fits told ans e p ns h = let n = none_at ans p e in cc

-- the names of the package's own folder are the first answer
pub started : (told : Name → Told) (old new : Answers) (root : List Name) → old ≡ [] →
    ((p : Name) → answer_at new p ≡ cond (bytes_eq [] p) (Some root) (answer_at old p)) → root_names (filled_by (told []) (Some root)) ≡ seen root →
    Fits told new × (answer_at new [] ≡ Some root)
started told old new root e h is =
    let missing = ap is_some (none_at old [] e) in
    ((grows-one told old new [] root missing h (root_is_answer (told []) root is)).1 (none_fits told old e), has-one told old new [] root missing h)

pub has_root : (told : Name → Told) (ans : Answers) (root : List Name) → answer_at ans [] ≡ Some root → root_names (filled_by (told []) (Some root)) ≡ seen root → HasRoot told ans
has_root told ans root e h = subst (λ (r : Option (List Name)). root_names (filled_by (told []) r) ≡ seen (unwrap_or r [])) (sym e) h

pub all-told : (told : Name → Told) (ans : Answers) (wanted : Wanted) → Fits told ans → HasRoot told ans → HasAll wanted ans → around (filled told ans) wanted ≡ seen (around_in ans wanted)
all-told told ans wanted f root h =
    rw (
      root,
      heard told ans (codes "src") f h.0,
      products-heard told ans wanted.bins (codes "src/bin") f h.1.0,
      products-heard told ans wanted.examples (codes "examples") f h.1.1.0,
      products-heard told ans wanted.tests (codes "tests") f h.1.1.1.0,
      products-heard told ans wanted.benches (codes "benches") f h.1.1.1.1,
    ) refl
