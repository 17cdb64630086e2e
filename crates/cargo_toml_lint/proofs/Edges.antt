-- What the lists of features turn on, as rows of places.
use Rattle.cargo_toml_lint.proofs.Cited.{ActionText, Among, Ascend, BTreeMap, Bool, Bor, Global, IsTrue, Leads, List, Name, On, Passes, String, Text, Vec, [], action_in, among_at, and-true, and_from, and_parts, ap, arith, bytes_eq, bytes_eq-Decides, common_steps, cond, false, false≢true, get_by_text, is_at, is_eq-slice_cmp, is_some, item_in, item_of, length, length-map, listed_in, lookup, map, nat_cmp, not, nth_text, once, option_map, refl, slice_cmp, string_bytes, subst, sym, true, turns_to, ℕ, ◌&&◌, ◌<◌, ◌||◌, ◌↔◌, ◌∙◌, ◌∷◌, ◌≡◌}

pub length_now : (names : List (Bor Text)) → length (map (λ t. t.now) names) ≡ length names
length_now names = length-map names (λ t. t.now)

-- the first n rows hold what P says
abbrev pub IsFilled : {Z : Type 0} → (ℕ → ℕ → Type 0) → ℕ → List (Vec ℕ Z) → Type 0
IsFilled P n rows = (length rows ≡ n) × ((a b : ℕ) → a < n → Leads rows a b ↔ P a b)

-- ---- what one text turns on: the name that it names or acts on, if it does so
module _ (names : List (Bor Text)) (optional : Text → Bool) (text : Text) (t : ActionText) (item : item_in t ≡ item_of text) (b : ℕ) where
  abbrev turns : Bool
  turns = not (t.is_dep_only || is_some t.dep_feature) || (optional t.target.now && (not t.is_conditional && not t.is_dep_only))

  abbrev texts : List Text
  texts = map (λ t. t.now) names

  abbrev Passed : Type 0
  Passed = Passes names (λ x. turns_to optional x (item_of text)) b

  is : (x : Text) → turns_to optional x (item_of text) ≡ (bytes_eq x t.target.now && turns)
  is x = ap (turns_to optional x) (sym item) ∙ go (t.is_dep_only || is_some t.dep_feature)
    where
      go : (acts : Bool) → turns_to optional x (cond acts (On t.target.now (action_in t)) (Name t.target.now))
          ≡ (bytes_eq x t.target.now && (not acts || (optional t.target.now && (not t.is_conditional && not t.is_dep_only))))
      go true = refl
      go false = sym (and-true _)

  at : Passed → b < length texts
  at h = subst (λ k. b < k) (sym (length_now names)) h.0

  -- the name that passes is this one
  named : Passed → (nth_text texts b ≡ t.target.now) × IsTrue turns
  named h =
      let both = and_parts _ _ (sym (is (nth_text texts b)) ∙ h.1) in
      ((bytes_eq-Decides (nth_text texts b) t.target.now).0 both.0, both.1)

  pub passes_none : turns ≡ false → ¬ Passed
  passes_none off h = false≢true (sym off ∙ (named h).1)

  pub passes_missing : (¬ Among texts t.target.now) → ¬ Passed
  passes_missing missing h = missing (subst (Among texts) (named h).0 (among_at texts b [] (at h)))

  pub passes_at : turns ≡ true → Ascend texts → (i : ℕ) → (i < length names) × (nth_text texts i ≡ t.target.now) → Passed ↔ (b ≡ i)
  passes_at on up i here = (
    λ h. once texts up b i (at h) (subst (λ k. i < k) (sym (length_now names)) here.0) ((named h).0 ∙ sym here.1),
    λ e. subst (Passes names (λ x. turns_to optional x (item_of text))) (sym e)
        (here.0, is (nth_text texts i) ∙ and_from _ _ ((bytes_eq-Decides (nth_text texts i) t.target.now).1 here.1) on),
  )

-- ---- the list of a feature
abbrev Lists : Type 0
Lists = BTreeMap (String Global) (Vec (String Global) Global)

abbrev pub texts_of : Vec (String Global) Global → List Text
texts_of v = map string_bytes v.items

looked_up : (f : Text) (es : List (String Global × Vec (String Global) Global))
    → lookup (bytes_eq f) (map (λ e. (string_bytes e.0, texts_of e.1)) es)
    ≡ option_map texts_of (lookup (is_at (λ k. slice_cmp nat_cmp f (string_bytes k))) es)
looked_up f [] = refl
looked_up f (e ∷ es) = grind (arith, common_steps, string_bytes, is_eq-slice_cmp f (string_bytes e.0), looked_up f es)

module _ (lists : Lists) where
  pub listed_at : (f : Text) → lookup (bytes_eq f) (listed_in lists) ≡ option_map texts_of (get_by_text lists f)
  listed_at f = looked_up f lists.entries
