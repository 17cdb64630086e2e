-- What the reader of `semver` reads as a requirement is read again from its own text.
use Rattle.cargo_toml_write.proofs.Cited.{Bool, Caret, Held, List, Minor, None, Ok, Op, Option, Parsed, Patch, Position, Result, Some, Wildcard, [], after_major, ap, append-nil, append_assoc, arith, bind-ok, build_part, cases_Bool, comparator_in, comparator_of, comparator_or, comparator_text, decimal, digits_from, drop_at, eq-eqb, false, first_or_equal, good, has, held}
use Rattle.cargo_toml_write.proofs.Cited.{identifier-ok, identifier_len, identifier_of, inl, inr, is_ascii_digit, is_pre_identifier, is_pre_release, join-parts, join_dots, length, list_all, marked, minor_of, minor_part, next_text, not, not_zero, numeric, numeric-of_text, numeric-text, ok-value, op_of, parts, parts-shape, patch_number}
use Rattle.cargo_toml_write.proofs.Cited.{patch_of, patch_part, pre_part, prepend, refl, req-end, req-more, req_after, req_from, req_next, req_of, requirement_text, scan, scan-all, sign_of, star_of, starts_digit, strip_spaces, subst, suc, sym, take_at, true, wild_req, wildcard_of, zero, ℕ, ◌&&◌, ◌++◌, ◌+◌, ◌<◌, ◌==◌, ◌^◌, ◌||◌, ◌∙◌, ◌∷◌, ◌≡◌}
use Rattle.cargo_toml_write.proofs.Cited.{◌≤◌}
use Rattle.std.specs.Prelude.{◌⊎◌}
use Rattle.std.specs.Prelude.{if◌then◌else◌}
use Rattle.semver.specs.Parse.{◌>>=◌}
use Rattle.semver.specs.declared.error.Error.{Error}
use Rattle.semver.proofs.Segments.{stops}
use Rattle.semver.specs.declared.error.Position.TheVariants as place

-- what is read are comparators that a text can say
abbrev pub is_wildcard : Op → Bool
is_wildcard Wildcard = true
is_wildcard o = false

-- what a text can say after the first number: no patch number without a minor number, no pre-release
-- without a patch number, and a wildcard only where a number is left out
abbrev pub AreNumbers : Op → Option ℕ → Option ℕ → List ℕ → Type 0
AreNumbers o None None pre = pre ≡ []
AreNumbers o None (Some patch) pre = ⊥
AreNumbers o (Some minor) None pre = (minor < 2 ^ 64) × (pre ≡ [])
AreNumbers o (Some minor) (Some patch) pre = (minor < 2 ^ 64) × (patch < 2 ^ 64) × (is_pre_release pre ≡ true) × (is_wildcard o ≡ false)

-- a comparator that a text can say, and as many as the reader takes
abbrev pub IsSpelled : Held → Type 0
IsSpelled c = (c.1 < 2 ^ 64) × AreNumbers c.0 c.2 c.3 c.4

abbrev pub AllSpelled : List Held → Type 0
AllSpelled [] = Unit {0}
AllSpelled (c ∷ cs) = IsSpelled c × AllSpelled cs

abbrev pub AreSpelled : ℕ → List Held → Type 0
AreSpelled n cs = (length cs ≤ n) × AllSpelled cs

-- the operator that was read is no wildcard
either-plain : (x : Bool) (a b : Op × List ℕ) → is_wildcard a.0 ≡ false → is_wildcard b.0 ≡ false → is_wildcard (if x then a else b).0 ≡ false
either-plain x a b h1 h2 = grind arith

equal-plain : (one two : Op) (text : List ℕ) → is_wildcard one ≡ false → is_wildcard two ≡ false → is_wildcard (first_or_equal one two text).0 ≡ false
equal-plain one two [] p q = p
equal-plain one two (b ∷ rest) p q = either-plain (b == 61) (two, rest) (one, b ∷ rest) q p

op-plain : (text : List ℕ) → is_wildcard (op_of text).0 ≡ false
op-plain text = grind (arith, either-plain, equal-plain)

-- a text that does not go on with a dot
abbrev no_dot : List ℕ → Bool
no_dot [] = true
no_dot (b ∷ rest) = not (b == 46)

-- what was read of the minor number: where there is none, a wildcard stood there or no dot follows
abbrev MinorIs : Op → Op → Option ℕ → Bool → List ℕ → Type 0
MinorIs o now None wild rest = (wild ≡ true) ⊎ (no_dot rest ≡ true)
MinorIs o now (Some x) wild rest = (x < 2 ^ 64) × (now ≡ o)

abbrev MinorRead : Op → Minor → Type 0
MinorRead o m = MinorIs o m.0 m.1 m.2 m.4

minor_of-ok : (default : Bool) (o : Op) (text : List ℕ) (w : Option (ℕ × List ℕ)) (m : Minor) → minor_of default o text w ≡ Ok m → MinorRead o m
minor_of-ok default o text (Some w) m h = subst (MinorRead o) (ok-value _ _ h) (inl refl)
minor_of-ok default o text None m h =
    let b = bind-ok (numeric place.Minor text) _ m h in
    let n = numeric-text place.Minor text b.0.0 b.0.1 b.1 in
    subst (MinorRead o) (ok-value _ _ b.2) (n.1, refl)

minor_part-ok : (default : Bool) (o : Op) (text : List ℕ) (m : Minor) → minor_part default o text ≡ Ok m → MinorRead o m
minor_part-ok default o text m h1 = grind (arith, minor_of-ok, ok-value)

-- what was read of the patch number
abbrev PatchIs : Op → Bool → List ℕ → Op → Option ℕ → Type 0
PatchIs o wild text now None = Unit {0}
PatchIs o wild text now (Some y) = (y < 2 ^ 64) × (now ≡ o) × (wild ≡ false) × (no_dot text ≡ false)

abbrev PatchRead : Op → Bool → List ℕ → Patch → Type 0
PatchRead o wild text p = PatchIs o wild text p.0 p.1

patch_number-ok : (o : Op) (wild : Bool) (text rest : List ℕ) (w : Option (ℕ × List ℕ)) (default : Bool) (p : Patch) → no_dot text ≡ false
    → patch_number o wild rest w default ≡ Ok p → PatchRead o wild text p
patch_number-ok o wild text rest (Some w) default p dot h = subst (PatchRead o wild text) (ok-value _ _ h) tt
patch_number-ok o true text rest None default p dot h = cc h
patch_number-ok o false text rest None default p dot h =
    let b = bind-ok (numeric place.Patch rest) _ p h in
    let n = numeric-text place.Patch rest b.0.0 b.0.1 b.1 in
    subst (PatchRead o false text) (ok-value _ _ b.2) (n.1, refl, refl, dot)

patch_of-ok : (default : Bool) (o : Op) (wild : Bool) (pos : Position) (text : List ℕ) (p : Patch) → patch_of default o wild pos text ≡ Ok p → PatchRead o wild text p
patch_of-ok default o wild pos text p h1 = grind (arith, ok-value, patch_number-ok)

-- what was read of the pre-release. The kit keeps these three to its own proofs.
good-at : (p : List ℕ) → good place.Pre p ≡ is_pre_identifier p
good-at p = grind arith

good-pre : good place.Pre ≡ is_pre_identifier
good-pre = λ d p. good-at p d

pre-good : (id : List ℕ) → list_all (good place.Pre) (parts id) ≡ true → is_pre_release id ≡ true
pre-good [] h = refl
pre-good (x ∷ rest) h = subst (λ (f : List ℕ → Bool). list_all f (parts (x ∷ rest)) ≡ true) good-pre h

good-of_pre : (x : ℕ) (rest : List ℕ) → is_pre_release (x ∷ rest) ≡ true → list_all (good place.Pre) (parts (x ∷ rest)) ≡ true
good-of_pre x rest h = subst (λ (f : List ℕ → Bool). list_all f (parts (x ∷ rest)) ≡ true) (sym good-pre) h

abbrev PreIs : Bool → List ℕ → Type 0
PreIs true pre = is_pre_release pre ≡ true
PreIs false pre = pre ≡ []

abbrev PreRead : Bool → List ℕ × Position × List ℕ → Type 0
PreRead there e = PreIs there e.0

pre_part-ok : (there : Bool) (pos : Position) (text : List ℕ) (e : List ℕ × Position × List ℕ) → pre_part there pos text ≡ Ok e → PreRead there e
pre_part-ok false pos text e h = subst (PreRead false) (ok-value _ _ h) refl
pre_part-ok true pos [] e h = subst (PreRead true) (ok-value _ _ h) refl
pre_part-ok true pos (b ∷ rest) e h = elim (cases_Bool (b == 45)) [
  | inl minus ↦
      let i = bind-ok (identifier_of place.Pre rest) _ e (rw minus at h) in
      subst (PreRead true) (ok-value _ _ i.2) (pre-good i.0.0 (identifier-ok place.Pre rest i.0.0 i.0.1 i.1).2)
  | inr other ↦ subst (PreRead true) (ok-value _ _ (rw other at h)) refl
]

-- the three of them
numbers-ok : (o now last : Op) (minor patch : Option ℕ) (wild : Bool) (text pre : List ℕ) → is_wildcard o ≡ false → MinorIs o now minor wild text
    → PatchIs now wild text last patch → PreIs (has patch) pre → AreNumbers last minor patch pre
numbers-ok o now last minor patch wild text pre h1 h2 h3 h4 = grind arith

-- what is read after the first number, after the minor number and after the patch number
abbrev pub from_patch : ℕ → Option ℕ → Patch → Result Parsed Error
from_patch major minor p =
    pre_part (has p.1) p.2 p.3 >>= λ e.
    build_part (has p.1) e.1 e.2 >>= λ b.
    Ok (p.0, major, minor, p.1, e.0, b.0, strip_spaces b.1)

abbrev pub from_minor : Bool → ℕ → Minor → Result Parsed Error
from_minor default major m = patch_part default m >>= λ p. from_patch major m.1 p

abbrev pub from_major : Bool → Op → ℕ → List ℕ → Result Parsed Error
from_major default o major text = minor_part default o text >>= λ m. from_minor default major m

from_patch-ok : (o : Op) (major : ℕ) (m : Minor) (p : Patch) (c : Parsed) → is_wildcard o ≡ false → major < 2 ^ 64 → MinorRead o m → PatchRead m.0 m.2 m.4 p
    → from_patch major m.1 p ≡ Ok c → IsSpelled (held c)
from_patch-ok o major m p c plain fits minor patch h =
    let e = bind-ok (pre_part (has p.1) p.2 p.3) _ c h in
    let b = bind-ok (build_part (has p.1) e.0.1 e.0.2) _ c e.2 in
    subst (λ (z : Parsed). IsSpelled (held z)) (ok-value _ _ b.2)
    (fits, numbers-ok o m.0 p.0 m.1 p.1 m.2 m.4 e.0.0 plain minor patch (pre_part-ok (has p.1) p.2 p.3 e.0 e.1))

from_minor-ok : (default : Bool) (o : Op) (major : ℕ) (m : Minor) (c : Parsed) → is_wildcard o ≡ false → major < 2 ^ 64 → MinorRead o m
    → from_minor default major m ≡ Ok c → IsSpelled (held c)
from_minor-ok default o major m c plain fits minor h =
    let p = bind-ok (patch_part default m) _ c h in
    from_patch-ok o major m p.0 c plain fits minor (patch_of-ok default m.0 m.2 m.3 m.4 p.0 p.1) p.2

from_major-ok : (default : Bool) (o : Op) (major : ℕ) (text : List ℕ) (c : Parsed) → is_wildcard o ≡ false → major < 2 ^ 64
    → from_major default o major text ≡ Ok c → IsSpelled (held c)
from_major-ok default o major text c plain fits h =
    let m = bind-ok (minor_part default o text) _ c h in
    from_minor-ok default o major m.0 c plain fits (minor_part-ok default o text m.0 m.1) m.2

comparator-ok : (input : List ℕ) (c : Parsed) → comparator_of input ≡ Ok c → IsSpelled (held c)
comparator-ok input c h =
    let a = bind-ok (numeric place.Major (strip_spaces (op_of input).1)) _ c h in
    let n = numeric-text place.Major (strip_spaces (op_of input).1) a.0.0 a.0.1 a.1 in
    from_major-ok (length input == length (op_of input).1) (op_of input).0 a.0.0 a.0.1 c (op-plain input) n.1 a.2

-- the comparators of a requirement
or-ok : (r : Result Parsed Error) (input : List ℕ) (p : Parsed) → comparator_or r input ≡ Ok p → r ≡ Ok p
or-ok r input p h1 = grind arith

next-ok : (n : ℕ) (c : Held) (next : Option (List ℕ)) (cs : List Held) → ((text : List ℕ) (ds : List Held) → req_from n text ≡ Ok ds → AreSpelled n ds) → IsSpelled c
    → req_next (req_from n) c next ≡ Ok cs → AreSpelled (suc n) cs
next-ok n c None cs more s h = subst (AreSpelled (suc n)) (ok-value _ _ h) (omega arith, (s, tt))
next-ok n c (Some text) cs more s h =
    let b = bind-ok (req_from n text) _ cs h in
    let rest = more text b.0 b.1 in
    subst (AreSpelled (suc n)) (ok-value _ _ b.2) (omega arith, (s, rest.1))

from-ok : (n : ℕ) (text : List ℕ) (cs : List Held) → req_from n text ≡ Ok cs → AreSpelled n cs
unfolding req_from
from-ok zero text cs h = cc h
from-ok (suc n) text cs h =
    let c = bind-ok (comparator_in text) _ cs h in
    let next = bind-ok (next_text c.0.5 c.0.6) _ cs c.2 in
    next-ok n (held c.0) next.0 cs (λ t ds g. from-ok n t ds g) (comparator-ok text c.0 (or-ok _ text c.0 c.1)) next.2

wild-ok : (ch : ℕ) (text : List ℕ) (cs : List Held) → wild_req ch text ≡ Ok cs → AreSpelled 32 cs
wild-ok ch text cs h1 = grind (arith, ok-value)

after-ok : (w : Option (ℕ × List ℕ)) (text : List ℕ) (cs : List Held) → req_after w text ≡ Ok cs → AreSpelled 32 cs
after-ok None text cs h = from-ok 32 text cs h
after-ok (Some w) text cs h = wild-ok w.0 (strip_spaces w.1) cs h

pub requirement-ok : (text : List ℕ) (cs : List Held) → req_of text ≡ Ok cs → AreSpelled 32 cs
requirement-ok text cs h = after-ok (wildcard_of (strip_spaces text)) (strip_spaces text) cs h

-- and these are read from the text of their requirement
-- what follows a comparator: nothing, or another one
abbrev after : Option (List ℕ) → List ℕ
after None = []
after (Some text) = 44 ∷ 32 ∷ text

-- a number's text starts with a digit
read-starts : (text : List ℕ) (p : ℕ × List ℕ) → numeric place.Major text ≡ Ok p → starts_digit text ≡ true
unfolding digits_from
read-starts [] p h = cc h
read-starts (b ∷ rest) p h = elim (cases_Bool (is_ascii_digit b)) [
  | inl digit ↦ digit
  | inr other ↦ cc (rw other at h)
]

starts-before : (front rest : List ℕ) → starts_digit front ≡ true → starts_digit (front ++ rest) ≡ true
starts-before [] rest h = cc h
starts-before (b ∷ front) rest h = h

decimal-starts : (n : ℕ) (rest : List ℕ) → n < 2 ^ 64 → starts_digit (decimal n ++ rest) ≡ true
decimal-starts n rest fits =
    let alone = read-starts (decimal n ++ []) (n, []) (numeric-of_text place.Major n [] fits refl) in
    starts-before (decimal n) rest (rw append-nil at alone)

-- a text whose front is neither a space nor a wildcard
abbrev is_front : List ℕ → Bool
is_front [] = false
is_front (b ∷ rest) = not (b == 32) && not (b == 42 || b == 120 || b == 88)

digit-front : (o : Op) (text : List ℕ) → starts_digit text ≡ true → is_front (sign_of o ++ text) ≡ true
digit-front o text h1 = grind arith

front-strip : (text : List ℕ) → is_front text ≡ true → strip_spaces text ≡ text
unfolding strip_spaces
front-strip [] h = refl
front-strip (b ∷ rest) h =
    let e : (b == 32) ≡ false = grind arith in
    rw e refl

front-wild : (text : List ℕ) → is_front text ≡ true → wildcard_of text ≡ None
front-wild text h1 = grind arith

-- what such a text is read as before the number
digit-strip : (text : List ℕ) → starts_digit text ≡ true → strip_spaces text ≡ text
digit-strip text h = front-strip text (digit-front Wildcard text h)

digit-wild : (text : List ℕ) → starts_digit text ≡ true → wildcard_of text ≡ None
digit-wild text h = front-wild text (digit-front Wildcard text h)

-- the operator that is read where this one is written
abbrev read_op : Op → Op
read_op Wildcard = Caret
read_op o = o

digit-op : (o : Op) (text : List ℕ) → starts_digit text ≡ true → op_of (sign_of o ++ text) ≡ (read_op o, text)
digit-op o text h1 = grind arith

-- a pre-release is read whole. The kit keeps this to its own proofs.
bind-on : {A B : Type 0} (r : Result A Error) (x : A) (f : A → Result B Error) → r ≡ Ok x → (r >>= f) ≡ f x
bind-on r x f e = rw e refl

pick-false : {T : Type 0} (x : Bool) (a b : T) → x ≡ false → (if x then a else b) ≡ b
pick-false x a b h1 = grind arith

abbrev ok-of : ℕ → Result ℕ Error
ok-of k = Ok k

identifier-whole : (pos : Position) (id tail : List ℕ) → 0 < length id → list_all (good pos) (parts id) ≡ true → stops tail ≡ true
    → identifier_of pos (id ++ tail) ≡ Ok (id, tail)
identifier-whole pos id tail big all stop =
    let shape = parts-shape id in
    let back : join_dots (shape.0 ∷ shape.1) ≡ id = subst (λ (ps : List (List ℕ)). join_dots ps ≡ id) shape.2 (join-parts id) in
    let fine = subst (λ (ps : List (List ℕ)). list_all (good pos) ps ≡ true) shape.2 all in
    let read = scan-all pos 0 shape.0 shape.1 tail stop fine in
    let z : 0 + length id ≡ length id = omega arith in
    let whole = subst (λ (j : List ℕ). scan pos 0 0 false false (j ++ tail) ≡ Ok (0 + length j)) back read in
    let len : scan pos 0 0 false false (id ++ tail) ≡ Ok (length id) = whole ∙ ap (λ (k : ℕ). ok-of k) z in
    let later = bind-on (identifier_len pos (id ++ tail)) (length id) _ len in
    later ∙ pick-false _ _ _ (not_zero (length id) big) ∙ rw (take_at id tail (length id) refl, drop_at id tail (length id) refl) refl

-- the numbers, each behind its dot
minor-again : (default : Bool) (o : Op) (x : ℕ) (rest : List ℕ) → x < 2 ^ 64 → starts_digit rest ≡ false
    → minor_part default o (46 ∷ (decimal x ++ rest)) ≡ Ok (o, Some x, false, place.Minor, rest)
minor-again default o x rest h1 h2 = grind (arith, decimal-starts, digit-wild, numeric-of_text)

patch-again : (default : Bool) (o : Op) (pos : Position) (y : ℕ) (rest : List ℕ) → y < 2 ^ 64 → starts_digit rest ≡ false
    → patch_of default o false pos (46 ∷ (decimal y ++ rest)) ≡ Ok (o, Some y, place.Patch, rest)
patch-again default o pos y rest h1 h2 = grind (arith, decimal-starts, digit-wild, numeric-of_text)

-- the reading of a comparator that another one may follow
abbrev Reads : Result Parsed Error → Held → Option (List ℕ) → Type 0
Reads r c next = (pos : Position) × (r ≡ Ok (c.0, c.1, c.2, c.3, c.4, pos, after next))

-- the end of a comparator
pre-again : (o : Op) (major minor patch : ℕ) (pre : List ℕ) (next : Option (List ℕ)) → is_pre_release pre ≡ true
    → Reads (from_patch major (Some minor) (o, Some patch, place.Patch, marked 45 pre ++ after next)) (o, major, Some minor, Some patch, pre) next
unfolding strip_spaces
pre-again o major minor patch [] None h = (place.Patch, refl)
pre-again o major minor patch [] (Some text) h = (place.Patch, refl)
pre-again o major minor patch (b ∷ r) None h =
    let read = identifier-whole place.Pre (b ∷ r) [] (omega arith) (good-of_pre b r h) refl in
    (place.Pre, rw read refl)
pre-again o major minor patch (b ∷ r) (Some text) h =
    let read = identifier-whole place.Pre (b ∷ r) (44 ∷ 32 ∷ text) (omega arith) (good-of_pre b r h) refl in
    (place.Pre, rw read refl)

no-digit : (pre : List ℕ) (next : Option (List ℕ)) → starts_digit (marked 45 pre ++ after next) ≡ false
no-digit pre next = grind arith

after-no_digit : (next : Option (List ℕ)) → starts_digit (after next) ≡ false
after-no_digit next = grind arith

-- a comparator whose missing numbers are not written
short-again : (default : Bool) (o : Op) (major : ℕ) (next : Option (List ℕ)) → Reads (from_major default o major (after next)) (o, major, None, None, []) next
unfolding strip_spaces
short-again default o major next = grind arith

minor_end : (default : Bool) (o : Op) (major minor : ℕ) (next : Option (List ℕ))
    → Reads (from_minor default major (o, Some minor, false, place.Minor, after next)) (o, major, Some minor, None, []) next
unfolding strip_spaces
minor_end default o major minor next = grind arith

-- the same reading, by another text
same-read : (r s : Result Parsed Error) (c : Held) (next : Option (List ℕ)) → r ≡ s → Reads s c next → Reads r c next
same-read r s c next e h = subst (λ (z : Result Parsed Error). Reads z c next) (sym e) h

plain-again : (default : Bool) (o : Op) (major : ℕ) (minor patch : Option ℕ) (pre : List ℕ) (next : Option (List ℕ)) → AreNumbers o minor patch pre
    → Reads (from_major default o major (after_major [] minor patch pre ++ after next)) (o, major, minor, patch, pre) next
plain-again default o major None None pre next s =
    subst (λ (z : List ℕ). Reads (from_major default o major (after next)) (o, major, None, None, z) next) (sym s) (short-again default o major next)
plain-again default o major None (Some y) pre next s = absurd s
plain-again default o major (Some x) None pre next s =
    let text : 46 ∷ ((decimal x ++ []) ++ after next) ≡ 46 ∷ (decimal x ++ after next) = rw append-nil refl in
    let whole = same-read _ _ _ next (bind-on _ _ _ (minor-again default o x (after next) s.0 (after-no_digit next))) (minor_end default o major x next) in
    let said = same-read _ _ _ next (ap (from_major default o major) text) whole in
    subst (λ (z : List ℕ). Reads (from_major default o major (46 ∷ ((decimal x ++ []) ++ after next))) (o, major, Some x, None, z) next) (sym s.1) said
plain-again default o major (Some x) (Some y) pre next s =
    let tail = marked 45 pre ++ after next in
    let text : 46 ∷ ((decimal x ++ (46 ∷ (decimal y ++ marked 45 pre))) ++ after next) ≡ 46 ∷ (decimal x ++ (46 ∷ (decimal y ++ tail)))
    = ap (λ (l : List ℕ). 46 ∷ l) (append_assoc (decimal x) _ _ ∙ ap (λ (l : List ℕ). decimal x ++ (46 ∷ l)) (append_assoc (decimal y) _ _)) in
    let minor = bind-on _ _ (from_minor default major) (minor-again default o x (46 ∷ (decimal y ++ tail)) s.0 refl) in
    let patch = bind-on _ _ (from_patch major (Some x)) (patch-again default o place.Minor y tail s.1 (no-digit pre next)) in
    same-read _ _ _ next (ap (from_major default o major) text) (same-read _ _ _ next (minor ∙ patch) (pre-again o major x y pre next s.2))

-- a wildcard
star-again : (major : ℕ) (next : Option (List ℕ)) → Reads (from_major true Caret major (46 ∷ 42 ∷ after next)) (Wildcard, major, None, None, []) next
unfolding strip_spaces
star-again major next = grind arith

star_end : (major minor : ℕ) (next : Option (List ℕ))
    → Reads (from_minor true major (Caret, Some minor, false, place.Minor, 46 ∷ 42 ∷ after next)) (Wildcard, major, Some minor, None, []) next
unfolding strip_spaces
star_end major minor next = grind arith

wild-again : (major : ℕ) (minor patch : Option ℕ) (pre : List ℕ) (next : Option (List ℕ)) → AreNumbers Wildcard minor patch pre
    → Reads (from_major true Caret major (after_major (46 ∷ 42 ∷ []) minor patch pre ++ after next)) (Wildcard, major, minor, patch, pre) next
wild-again major None None pre next s =
    subst (λ (z : List ℕ). Reads (from_major true Caret major (46 ∷ 42 ∷ after next)) (Wildcard, major, None, None, z) next) (sym s) (star-again major next)
wild-again major None (Some y) pre next s = absurd s
wild-again major (Some x) None pre next s =
    let text : 46 ∷ ((decimal x ++ (46 ∷ 42 ∷ [])) ++ after next) ≡ 46 ∷ (decimal x ++ (46 ∷ 42 ∷ after next)) = rw append_assoc refl in
    let whole = same-read _ _ _ next (bind-on _ _ _ (minor-again true Caret x (46 ∷ 42 ∷ after next) s.0 refl)) (star_end major x next) in
    let said = same-read _ _ _ next (ap (from_major true Caret major) text) whole in
    subst (λ (z : List ℕ). Reads (from_major true Caret major (46 ∷ ((decimal x ++ (46 ∷ 42 ∷ [])) ++ after next))) (Wildcard, major, Some x, None, z) next) (sym s.1) said
wild-again major (Some x) (Some y) pre next s = let w = s.3 in absurd cc

-- the first number, behind its operator
numbered : (input : List ℕ) (o : Op) (body : List ℕ) (major : ℕ) (rest : List ℕ) → op_of input ≡ (o, body) → strip_spaces body ≡ body → numeric place.Major body ≡ Ok (major, rest)
    → comparator_of input ≡ from_major (length input == length body) o major rest
numbered input o body major rest e s n = rw (e, s, n) refl

rest-no_digit : (star : List ℕ) (minor patch : Option ℕ) (pre : List ℕ) (next : Option (List ℕ)) → starts_digit (star ++ after next) ≡ false
    → starts_digit (after_major star minor patch pre ++ after next) ≡ false
rest-no_digit star minor patch pre next h1 = grind arith

star-no_digit : (o : Op) (next : Option (List ℕ)) → starts_digit (star_of o ++ after next) ≡ false
star-no_digit o next = grind (arith, after-no_digit)

rest-again : (o : Op) (input body : List ℕ) (major : ℕ) (minor patch : Option ℕ) (pre : List ℕ) (next : Option (List ℕ)) → input ≡ sign_of o ++ body → AreNumbers o minor patch pre
    → Reads (from_major (length input == length body) (read_op o) major (after_major (star_of o) minor patch pre ++ after next)) (o, major, minor, patch, pre) next
rest-again Wildcard input body major minor patch pre next e s =
    let same : (length input == length body) ≡ true = eq-eqb _ _ (ap length e) in
    rw same (wild-again major minor patch pre next s)
rest-again o input body major minor patch pre next e s = plain-again (length input == length body) o major minor patch pre next s

comparator-again : (c : Held) (next : Option (List ℕ)) → IsSpelled c → Reads (comparator_of (comparator_text c ++ after next)) c next
comparator-again c next s =
    let rest = after_major (star_of c.0) c.2 c.3 c.4 ++ after next in
    let body = decimal c.1 ++ rest in
    let text : comparator_text c ++ after next ≡ sign_of c.0 ++ body
    = append_assoc (sign_of c.0) _ _ ∙ ap (λ (l : List ℕ). sign_of c.0 ++ l) (append_assoc (decimal c.1) _ _) in
    let starts = decimal-starts c.1 rest s.0 in
    let op = ap op_of text ∙ digit-op c.0 body starts in
    let major = numeric-of_text place.Major c.1 rest s.0 (rest-no_digit (star_of c.0) c.2 c.3 c.4 next (star-no_digit c.0 next)) in
    same-read _ _ c next (numbered (comparator_text c ++ after next) (read_op c.0) body c.1 rest op (digit-strip body starts) major)
    (rest-again c.0 (comparator_text c ++ after next) body c.1 c.2 c.3 c.4 next text s.1)

-- the front of a comparator's text
text-front : (c : Held) (more : List ℕ) → c.1 < 2 ^ 64 → is_front (comparator_text c ++ more) ≡ true
text-front c more fits =
    let text : comparator_text c ++ more ≡ sign_of c.0 ++ (decimal c.1 ++ (after_major (star_of c.0) c.2 c.3 c.4 ++ more))
    = append_assoc (sign_of c.0) _ _ ∙ ap (λ (l : List ℕ). sign_of c.0 ++ l) (append_assoc (decimal c.1) _ _) in
    rw text (digit-front c.0 _ (decimal-starts c.1 _ fits))

-- one comparator after the other
spaced : (text : List ℕ) → is_front text ≡ true → strip_spaces (32 ∷ text) ≡ text
unfolding strip_spaces
spaced text h = front-strip text h

from-again : (n : ℕ) (c : Held) (cs : List Held) → length (c ∷ cs) ≤ n → IsSpelled c → AllSpelled cs → req_from n (requirement_text (c ∷ cs)) ≡ Ok (c ∷ cs)
from-again zero c cs few s all = absurd (omega arith)
from-again (suc n) c [] few s all =
    let read = comparator-again c None s in
    req-end n (requirement_text (c ∷ [])) (c.0, c.1, c.2, c.3, c.4, read.0, []) read.1 refl
from-again (suc n) c (d ∷ ds) few s all =
    let rest = requirement_text (d ∷ ds) in
    let read = comparator-again c (Some rest) s in
    let p : Parsed = (c.0, c.1, c.2, c.3, c.4, read.0, 44 ∷ 32 ∷ rest) in
    let next : next_text p.5 p.6 ≡ Ok (Some rest) = ap (λ (t : List ℕ). Ok (Some t)) (spaced rest (text-front d _ all.0.0)) in
    req-more n (requirement_text (c ∷ d ∷ ds)) p rest read.1 next
    ∙ ap (prepend (c ∷ [])) (from-again n d ds (omega arith) all.0 all.1)

pub requirement-again : (cs : List Held) → AreSpelled 32 cs → req_of (requirement_text cs) ≡ Ok cs
unfolding strip_spaces
requirement-again [] s = refl
requirement-again (c ∷ cs) s =
    let front = text-front c _ s.1.0.0 in
    rw (front-strip (requirement_text (c ∷ cs)) front, front-wild (requirement_text (c ∷ cs)) front) (from-again 32 c cs s.0 s.1.0 s.1.1)

-- whatever some text is read as is read again from its own text
pub spelled_again : (text : List ℕ) (cs : List Held) → req_of text ≡ Ok cs → req_of (requirement_text cs) ≡ Ok cs
spelled_again text cs h = requirement-again cs (requirement-ok text cs h)
