-- What is found in an answer for a manifest is what holds of the manifest.
use Rattle.cargo_toml_lint.proofs.Cited.{Among, Bool, Code, Counts, CountsBy, Cycle, Entry, Feature, Features, HoldsOf, Implied, IsOnlyDefault, IsParsed, IsTrue, Known, List, Listed, ManifestMeaning, PrivateDefault, Some, Table, Text, Unreachable, [], admitted, all_names, and_parts, answer_of, ap, arith, explicit_at, false, false_from_ne_true, false≢true, findings_by, held, held_names, implied_at, is_explicit, is_hidden, is_implied, is_private, is_removed, is_some, length, listed_by, marked, marks_in, marks_of, nat_lt, not, not-true, not_from_false, option_map_or, or_cases, or_left, or_right, parsed_entries, parsed_table, plain_detail, private_at, subst, sym, table_in, there, true, turning, turning_by, value_at, written_findings, written_in, ℕ, ◌||◌, ◌↔◌, ◌∙◌, ◌≡◌, ◌⊎◌}

same_truth : (a b : Bool) → (IsTrue a ↔ IsTrue b) → a ≡ b
same_truth a b h = grind arith

module _ {M S H : Type 0} (limit : ℕ) (m : ManifestMeaning M) (a : Features S H) (known : Known)
    (names : held_names known ≡ all_names m) (listed_as : listed_by known ≡ m.features)
    (parsed : IsParsed limit m (λ _. true) (answer_of a)) where
  abbrev listed : Listed
  listed = admitted limit m.features

  abbrev entries : List Entry
  entries = parsed_entries limit m

  -- a filter that keeps each feature removes none
  none : (f : Text) → ¬ IsTrue (is_removed (parsed_table limit m) (λ _. true) f)
  none f removed = false≢true (and_parts _ _ removed).1

  none_has : (f : Text) → (table_in a.features).has f ≡ (parsed_table limit m).has f
  none_has f = same_truth _ _ (
    there a.features (parsed_table limit m) (λ f. IsTrue (is_removed (parsed_table limit m) (λ _. true) f)) none parsed.kept.resolved f,
    held a.features (parsed_table limit m) (λ f. IsTrue (is_removed (parsed_table limit m) (λ _. true) f)) none parsed.kept.resolved f,
  )

  mark : (f : Text) (v : Feature) → value_at a.features f ≡ Some v → marks_of v ≡ marks_in listed m.feature_details f
  mark f v is = subst (λ o. option_map_or marks_of o (marked false plain_detail)
      ≡ marks_in listed m.feature_details f) is (parsed.kept.marks f (ap is_some is))

  explicit_is : (f : Text) → explicit_at a.features f ≡ is_explicit listed f
  explicit_is f = grind (arith, false_from_ne_true, false≢true, none_has, or_left, mark)

  private_is : (f : Text) → IsTrue ((table_in a.features).has f) → private_at a.features f ≡ is_private listed m.feature_details f
  private_is f = grind (arith, there, false≢true, mark)

  implied_is : (f : Text) → IsTrue (implied_at a.features f) ↔ IsTrue (is_implied listed entries f)
  implied_is f = grind (arith, false≢true, none_has, or_right, explicit_is, or_cases, not-true, not_from_false, and_parts)

  implied_has : (f : Text) → IsTrue (implied_at a.features f) → IsTrue ((table_in a.features).has f)
  implied_has f = grind arith

  -- what the manifest's features turn on
  abbrev whole : Table
  whole = turning m (parsed_table limit m).has

  -- the table of what is gathered and resolved
  abbrev gathered : Table
  gathered = turning_by (listed_by known) (held_names known).optional (table_in a.features).has

  same : gathered ≡ whole
  same = λ i. turning_by (listed_as i) (names i).optional (λ f. none_has f i)

  counts_is : (c : Code) (f : Text) → (IsTrue ((table_in a.features).has f) × CountsBy a.features gathered c f) ↔ Counts limit m c f
  counts_is Implied f = (λ h. (implied_is f).0 h.1, λ h. let i = (implied_is f).1 h in (implied_has f i, i))
  counts_is PrivateDefault f = (
    λ h. (ap (λ b. is_hidden f || b) (sym (private_is f h.0)) ∙ h.1.0, subst (λ t. IsOnlyDefault t f) same h.1.1),
    λ h.
        let d = subst (λ t. IsOnlyDefault t f) (sym same) h.1 in
        (d.default_does.target, (ap (λ b. is_hidden f || b) (private_is f d.default_does.target) ∙ h.0, d)),
  )
  counts_is Cycle f = rw same (λ h. h.1, λ h. (rw none_has h.known, h))
  counts_is Unreachable f = rw same (λ h. h.1, λ h. (rw none_has h.known, h))
  counts_is _ f = (λ h. absurd h.1, λ h. absurd h)

  written_same : written_in a.features known limit m ≡ written_findings limit m
  written_same = λ i. findings_by (names i) (λ f ts. nat_lt limit (length ts) || not (explicit_is f i)) limit (listed_as i) m

  -- what is found is what holds
  pub holds_is : (c : Code) (f t : Text)
      → (Among (written_in a.features known limit m) (c, f, t)
      ⊎ ((t ≡ []) × IsTrue ((table_in a.features).has f) × CountsBy a.features gathered c f)) ↔ HoldsOf limit m c f t
  holds_is c f t = grind (arith, written_same, counts_is)
