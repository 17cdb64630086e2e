-- The keys of the entries that pass a test.
use Rattle.cargo_toml_features.proofs.Cited.{Among, Bool, Bor, Entry, IsTrue, List, ParseDependency, Text, [], among-either, among-first, among-second, ap, arith, bytes_eq, bytes_eq-Decides, common_steps, counts_alone, entry_of, false, false≢true, get_or, get_or-map, length, length-map, list_any, list_any-append, map, map-append, rules, subst, sym, take, true, ℕ, ◌&&◌, ◌++◌, ◌+◌, ◌<◌, ◌||◌, ◌↔◌, ◌∙◌, ◌∷◌, ◌≡◌, ◌⊎◌}
use Rattle.cargo_toml_features.proofs.ByPlace.{texts, taken_more}

either : (a b : Bool) → IsTrue (a || (b || false)) → IsTrue a ⊎ IsTrue b
either v0 v1 v2 = search rules

from_first : (a b : Bool) → IsTrue a → IsTrue (a || (b || false))
from_first v0 v1 v2 = search rules

from_second : (a b : Bool) → IsTrue b → IsTrue (a || (b || false))
from_second v0 v1 v2 = search rules

both : (a b : Bool) → IsTrue (a && b) → IsTrue a × IsTrue b
both v0 v1 v2 = search rules

module _ (test : Text → Entry → Bool) where
  abbrev passes_at : Text → Entry → Bool
  passes_at k e = bytes_eq e.key k && test k e

  abbrev pub Gathers : List Text → List Entry → Type 0
  Gathers ks es = (k : Text) → Among ks k ↔ IsTrue (list_any (passes_at k) es)

  put_last : (ks : List Text) (es : List Entry) (e : Entry) → IsTrue (test e.key e) → Gathers ks es → Gathers (ks ++ e.key ∷ []) (es ++ e ∷ [])
  put_last ks es e on g k = grind (arith, common_steps, list_any-append, among-either, from_first, from_second, either, among-first, among-second, bytes_eq-Decides, both)

  leave_last : (ks : List Text) (es : List Entry) (e : Entry) → test e.key e ≡ false → Gathers ks es → Gathers ks (es ++ e ∷ [])
  leave_last ks es e off g k = grind (arith, common_steps, list_any-append, from_first, either, both, false≢true, bytes_eq-Decides)

  -- the same of the entry at a place
  module _ (es : List ParseDependency) (keys : List (Bor Text)) (i : ℕ) (p : ParseDependency) (inside : i < length es) (is : p ≡ get_or es i p)
      (gathered : Gathers (texts keys) (map entry_of (take i es))) where
    more : map entry_of (take (i + 1) es) ≡ map entry_of (take i es) ++ entry_of p ∷ []
    more = taken_more entry_of es i p p inside is

    pub key_put : (new : List (Bor Text)) → new ≡ keys ++ p.key ∷ [] → test p.key.now (entry_of p) ≡ true → Gathers (texts new) (map entry_of (take (i + 1) es))
    key_put new put on = subst (λ ks. Gathers ks (map entry_of (take (i + 1) es))) (sym (ap texts put ∙ map-append (λ (t : Bor Text). t.now) keys (p.key ∷ [])))
        (subst (Gathers (texts keys ++ p.key.now ∷ [])) (sym more) (put_last (texts keys) (map entry_of (take i es)) (entry_of p) on gathered))

    pub key_left : (new : List (Bor Text)) → new ≡ keys → test p.key.now (entry_of p) ≡ false → Gathers (texts new) (map entry_of (take (i + 1) es))
    key_left new same off = subst (λ ks. Gathers (texts ks) (map entry_of (take (i + 1) es))) (sym same)
        (subst (Gathers (texts keys)) (sym more) (leave_last (texts keys) (map entry_of (take i es)) (entry_of p) off gathered))

-- the flag of one more entry
pub flag_put : (mentioned : Text → Bool) (es : List ParseDependency) (i : ℕ) (p : ParseDependency) → i < length es → p ≡ get_or es i p → (flags : List Bool) (b : Bool) → b ≡ counts_alone mentioned (entry_of p)
    → flags ≡ map (counts_alone mentioned) (map entry_of (take i es)) → (new : List Bool) → new ≡ flags ++ b ∷ [] → new ≡ map (counts_alone mentioned) (map entry_of (take (i + 1) es))
flag_put v0 v1 v2 v3 v4 v5 v6 v7 v8 v9 v10 v11 = grind (arith, common_steps, taken_more, map-append)

-- and the flag at the place of an entry
pub flag_there : (mentioned : Text → Bool) (es : List ParseDependency) (i : ℕ) (p : ParseDependency) (flags : List Bool) (d : Bool) → i < length es → p ≡ get_or es i p
    → flags ≡ map (counts_alone mentioned) (map entry_of es) → get_or flags i d ≡ counts_alone mentioned (entry_of p)
flag_there mentioned es i p flags d inside is are =
    let long : i < length (map entry_of es) = subst (λ n. i < n) (sym (length-map es entry_of)) inside in
    ap (λ fs. get_or fs i d) are ∙ get_or-map (counts_alone mentioned) (map entry_of es) i (entry_of p) d long
    ∙ ap (counts_alone mentioned) (get_or-map entry_of es i p (entry_of p) inside ∙ ap entry_of (sym is))
