-- Tokens that are written one after another.
use Rattle.std.proofs.Common.{Bor, Global, IfOk, List, Ok, Result, String, [], append-nil, string_bytes, subst, ap, append_assoc, map, refl, sym, ◌++◌, ◌∙◌, ◌∷◌, ◌≡◌}
use Rattle.std.specs.declared.alloc.AllocError.{AllocError}
use Rattle.cargo_toml.specs.Action.{Text}
use Rattle.std.proofs.lemmas.Result.{IfOk-weaker}
use Rattle.json.specs.Print.{print}
use Rattle.json.specs.Token.{Token, end_array, end_object, key}
use Rattle.json.specs.Tree.{items_tokens, members_tokens}
use Rattle.json.specs.Written.{Written, Writes}
use Rattle.serde_json.specs.Data.{Data, Members, member, no_members, string}
use Rattle.serde_json.specs.View.{items_of}
use Rattle.serde_json.specs.Written.{compact_text, items_outline, members_outline}
use Rattle.serde_json.proofs.Texts.{print-outline}
use Rattle.cargo_toml_answers.specs.Adding.{Adds, rows_tokens, tokens_of}

-- the two are written one after another
pub then : {a b c : Written} {xs ys : List Token} → Adds a b xs → Adds b c ys → Adds a c (xs ++ ys)
then {a} {b} {c} {xs} {ys} p q = record {
  before = q.before ∙ p.before;
  tokens = q.tokens ∙ ap (λ ts. ts ++ ys) p.tokens ∙ append_assoc a.tokens xs ys;
}

-- one token
pub one : {E : Type 0} {u : Unit {0}} {a b : Written} {t : Token} → Writes {E = E} (Ok u) a b t → Adds a b (t ∷ [])
one w = record { before = w.room.0; tokens = w.ok }

-- the tokens of values, and of members
abbrev pub values_tokens : List Data → List Token
values_tokens [] = []
values_tokens (d ∷ ds) = tokens_of d ++ values_tokens ds

pub values_end : (ds : List Data) → values_tokens ds ++ end_array ∷ [] ≡ items_tokens (items_outline (items_of ds))
values_end [] = refl
values_end (d ∷ ds) = append_assoc (tokens_of d) (values_tokens ds) _ ∙ ap (λ ts. tokens_of d ++ ts) (values_end ds)

abbrev pub Row : Type 0
Row = Text × Data

-- members in the order of these rows
abbrev pub members_in : List Row → Members
members_in [] = no_members
members_in (r ∷ rs) = member r.0 r.1 (members_in rs)

pub rows_end : (rs : List Row) → rows_tokens rs ++ end_object ∷ [] ≡ members_tokens (members_outline (members_in rs))
rows_end [] = refl
rows_end (r ∷ rs) = ap (λ ts. key r.0 ∷ ts) (append_assoc (tokens_of r.1) (rows_tokens rs) _ ∙ ap (λ ts. tokens_of r.1 ++ ts) (rows_end rs))

-- whatever is written behind the rest of these is behind all of them
abbrev pub Leads : Written → Written → List Token → List Token → Type 0
Leads first now rest all = (new : Written) (ts : List Token) → Adds now new (rest ++ ts) → Adds first new (all ++ ts)

pub leads_on : (first now next : Written) (rest all xs more : List Token) → Leads first now rest all → rest ≡ xs ++ more → Adds now next xs → Leads first next more all
leads_on first now next rest all xs more lead is step = λ new ts h.
    lead new ts (subst (λ us. Adds now new (us ++ ts)) (sym is) (subst (Adds now new) (sym (append_assoc xs more ts)) (then step h)))

-- what was begun is ended behind all of them
pub whole : (a first now last : Written) (rest all : List Token) (begin end : Token) → Adds a first (begin ∷ []) → Leads first now rest all → rest ≡ [] → Adds now last (end ∷ [])
    → Adds a last (begin ∷ (all ++ end ∷ []))
whole a first now last rest all begin end begun lead none ended =
    then begun (lead last (end ∷ []) (subst (λ us. Adds now last (us ++ end ∷ [])) (sym none) ended))

-- texts as values
pub texts_values : (ts : List (Bor Text)) → map (λ t. string t.now) ts ≡ map string (map (λ t. t.now) ts)
texts_values [] = refl
texts_values (t ∷ ts) = ap (λ ds. string t.now ∷ ds) (texts_values ts)

-- nothing is written
pub none : (a : Written) → Adds a a []
none a = record { before = refl; tokens = sym (append-nil a.tokens) }

-- one member
pub alone : (a b : Written) (k : Text) (d : Data) → Adds a b (key k ∷ tokens_of d) → Adds a b (rows_tokens ((k, d) ∷ []))
alone a b k d h = subst (λ ts. Adds a b (key k ∷ ts)) (sym (append-nil (tokens_of d))) h

pub rows_both : (rs qs : List Row) → rows_tokens (rs ++ qs) ≡ rows_tokens rs ++ rows_tokens qs
rows_both [] qs = refl
rows_both (r ∷ rs) qs = ap (λ ts. key r.0 ∷ ts) (ap (λ ts. tokens_of r.1 ++ ts) (rows_both rs qs) ∙ sym (append_assoc (tokens_of r.1) (rows_tokens rs) (rows_tokens qs)))

-- the text of what was written of a value, from nothing on
pub text_is : (made : Result (String Global) AllocError) (a b : Written) (d : Data) → a.before ≡ [] → a.tokens ≡ [] → Adds a b (tokens_of d)
    → IfOk made (λ text. b.before ≡ [] → string_bytes text ≡ print b.tokens) → IfOk made (λ text. string_bytes text ≡ compact_text d)
text_is made a b d empty blank adds given =
    IfOk-weaker made _ _ (λ text is. is (adds.before ∙ empty) ∙ ap print (adds.tokens ∙ ap (λ ts. ts ++ tokens_of d) blank) ∙ print-outline d) given

-- values, and one more
pub values_both : (ds : List Data) (d : Data) → values_tokens ds ++ tokens_of d ≡ values_tokens (ds ++ d ∷ [])
values_both [] d = sym (append-nil (tokens_of d))
values_both (e ∷ ds) d = append_assoc (tokens_of e) (values_tokens ds) (tokens_of d) ∙ ap (λ ts. tokens_of e ++ ts) (values_both ds d)
