-- Members that are put into an object one after another.
use Rattle.cargo_toml_tools.proofs.Cited.{[], ◌++◌, ◌∙◌, ◌∷◌, ◌≡◌, ap, arith, asked_is, Bool, Bor, codes, Data, false, feature_rows, if◌then◌else◌, is_extended, List, list_any, lists_object, map, map-append, Members, number, put, refl, sym, Text, true, unsigned, Value, view, with_rows}
use Rattle.cargo_toml_tools.proofs.Grown.{nested}

pub with_both : (xs ys : List (Text × Data)) (ms : Members) → with_rows (xs ++ ys) ms ≡ with_rows ys (with_rows xs ms)
with_both [] ys ms = refl
with_both (x ∷ xs) ys ms = with_both xs ys (put x.0 x.1 ms)

-- one more entry
pub one_entry : (old new : List Value) (v : Value) (d : Data) → new ≡ old ++ v ∷ [] → view v ≡ d
    → map view new ≡ map view old ++ d ∷ []
one_entry old new v d e is = ap (map view) e ∙ map-append view old (v ∷ []) ∙ ap (λ x. map view old ++ x ∷ []) is

-- one more key, or none
pub one_key : (old new : List (Bor Text)) (k : Bor Text) (has : Bool) → new ≡ old ++ k ∷ [] → has ≡ true
    → map (λ k. k.now) new ≡ map (λ k. k.now) old ++ (if has then k.now ∷ [] else [])
one_key old new k has e h =
    ap (map (λ k. k.now)) e ∙ map-append (λ k. k.now) old (k ∷ []) ∙ ap (λ b. map (λ k. k.now) old ++ (if b then k.now ∷ [] else [])) (sym h)

pub put_same : (key : Text) (d e : Data) (a b : Members) → b ≡ put key d a → d ≡ e → b ≡ put key e a
put_same key d e a b puts same = puts ∙ ap (λ x. put key x a) same

-- of an entry, and of all
pub ruleset wanted = (with_both, asked_is)

pub ruleset listed = (nested, one_entry)

pub ruleset keyed = (nested, one_key)

-- the features, with those of the second version
pub second_version : (fs : List (Text × List Text)) (a b c d : Members) (x y z : Data) → b ≡ put (codes "features") x a → x ≡ lists_object false fs
    → list_any (λ (f : Text × List Text). is_extended f.1) fs ≡ true → c ≡ put (codes "features2") y b → y ≡ lists_object true fs
    → d ≡ put (codes "v") z c → z ≡ number (unsigned 2) → d ≡ with_rows (feature_rows fs) a
second_version fs a b c d x y z first is some second is_too third two = grind (arith, put_same)
