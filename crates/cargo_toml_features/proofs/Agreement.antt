-- What is listed, the entries and what is kept settle an answer except its binaries.
use Rattle.cargo_toml_features.proofs.Cited.{Agree, Answer, Bool, Entry, FeatureMarks, IfSome, IsAnswer, IsAnswerWithout, IsTrue, List, Listed, NamedDetails, Option, RecordedKey, SameRecorded, SameTests, Text, [], ap, arith, by_true, bytes_eq, bytes_eq-Decides, common_steps, detail_named, details_listed, false≢true, is_removed, is_some, lookup, marks_in, resolution_settled, subst, sym, table_of, true, ◌↔◌, ◌∙◌, ◌∷◌, ◌≡◌}

-- two that record what a third does
alike : (a b c : Option RecordedKey) → SameRecorded a c → SameRecorded b c → SameRecorded a b
alike v0 v1 v2 v3 v4 = grind (arith, common_steps)

-- two of which each is told by P, both there or neither
tests_alike : (P : Text → Type 0) (p q : Option (Text → Bool)) → is_some p ≡ is_some q
    → IfSome p (λ names. (x : Text) → IsTrue (names x) ↔ P x) → IfSome q (λ names. (x : Text) → IsTrue (names x) ↔ P x) → SameTests p q
tests_alike v0 v1 v2 v3 v4 v5 = grind (arith, common_steps, false≢true, by_true)

pub settled : (listed : Listed) (entries : List Entry) (details told : NamedDetails) (own others : Text → List Text) (keep : Text → Bool) (a b : Answer)
    → IsAnswer listed entries details own keep a → IsAnswer listed entries told others keep b → Agree a b
settled listed entries details told own others keep a b h k = record {
  features = resolution_settled (table_of listed entries) (λ v. IsTrue (is_removed (table_of listed entries) keep v)) a.resolution b.resolution h.kept.resolved k.kept.resolved;
  keys = λ f x y at bt. subst (λ o. IfSome o (λ z. z ≡ f)) at (h.kept.keyed f) ∙ sym (subst (λ o. IfSome o (λ z. z ≡ f)) bt (k.kept.keyed f));
  explicit = λ f has.
      ap (λ (m : FeatureMarks). m.explicit) (h.kept.marks f has)
      ∙ sym (ap (λ (m : FeatureMarks). m.explicit) (k.kept.marks f ((k.kept.resolved.kept f).1 ((h.kept.resolved.kept f).0 has))));
  dependencies = λ d. alike (a.dependencies d) (b.dependencies d) _ (h.kept.dependencies d) (k.kept.dependencies d);
  redirects = λ r. tests_alike _ (a.redirects r) (b.redirects r) (by_true _ _ (λ y. (k.redirected r).1 ((h.redirected r).0 y), λ y. (h.redirected r).1 ((k.redirected r).0 y))) (h.redirects r) (k.redirects r);
  removed_some = by_true a.removed_some b.removed_some (λ e. k.kept.some.1 (h.kept.some.0 e), λ e. h.kept.some.1 (k.kept.some.0 e));
}

-- ---- the details of what is listed, and all details
-- of a name that is listed, the details of what is listed say what all details say
listed_says : (listed : Listed) (details : NamedDetails) (f : Text) → is_some (lookup (bytes_eq f) listed) ≡ true → detail_named (details_listed listed details) f ≡ detail_named details f
listed_says [] details f there = absurd (false≢true there)
listed_says (e ∷ es) details f there = grind (arith, common_steps, false≢true, bytes_eq-Decides, listed_says es details f)

-- so the marks by both are the same
marks_listed : (listed : Listed) (details : NamedDetails) (f : Text) → marks_in listed (details_listed listed details) f ≡ marks_in listed details f
marks_listed listed details f = grind (arith, common_steps, listed_says)

-- and an answer by the details of what is listed is one by all details
pub told_by_listed : (listed : Listed) (entries : List Entry) (details : NamedDetails) (own : Text → List Text) (R : Text → Type 0) (a : Answer)
    → IsAnswerWithout listed entries (details_listed listed details) own R a → IsAnswerWithout listed entries details own R a
told_by_listed listed entries details own keep a h = grind (arith, common_steps, marks_listed)
