-- Texts are equal or not, as their bytes tell.
use Rattle.std.proofs.Common.{◌≡◌, ◌≢◌, ◌⊎◌, Bool, true, not, IsTrue, bytes_eq, refl, sym, inl, inr, ◌∙◌, ◌↔◌, rules}
use Rattle.std.proofs.lemmas.{Bool.false≢true, Bool.cases_Bool, Bool.not-true, Bool.not_from_false, Bool.false_from_ne_true, Slice.Eq.bytes_eq-Decides}
use Rattle.cargo_toml_graph.specs.Action.{Text}

pub same : {a b : Text} → IsTrue (bytes_eq a b) → a ≡ b
same {a} {b} e = (bytes_eq-Decides a b).0 e

pub apart_false : (a b : Text) → a ≢ b → IsTrue (not (bytes_eq a b))
apart_false a b ne = not_from_false _ (false_from_ne_true _ (λ e. ne (same e)))

pub apart_from : (a b : Text) → IsTrue (not (bytes_eq a b)) → a ≢ b
apart_from a b e i = false≢true (sym (not-true _ e) ∙ (bytes_eq-Decides a b).1 i)

pub decided_text : (a b : Text) → (a ≡ b) ⊎ (a ≢ b)
decided_text a b = elim (cases_Bool (bytes_eq a b)) [ inl e ↦ inl (same e) | inr e ↦ inr (λ i. false≢true (sym e ∙ (bytes_eq-Decides a b).1 i)) ]

pub bytes_eq_refl : (a : Text) → bytes_eq a a ≡ true
bytes_eq_refl a = (bytes_eq-Decides a a).1 refl

pub bytes_eq_sym : (a b : Text) → bytes_eq a b ≡ bytes_eq b a
bytes_eq_sym a b = search (rules, bytes_eq-Decides, false_from_ne_true, false≢true)

-- tests that hold of the same are one
pub by_true : (a b : Bool) → IsTrue a ↔ IsTrue b → a ≡ b
by_true a b e = search (rules, false≢true)
