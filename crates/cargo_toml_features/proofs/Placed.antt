-- Values under names that ascend, and features in that order.
use Rattle.cargo_toml_features.proofs.Cited.{Among, AreInOrder, Ascend, Bool, Bor, Feature, HaveSameNames, IsTrue, List, None, Option, Slots, Some, Text, [], ap, ap₂, arith, below_one_way, bytes_eq, bytes_eq-Decides, common_steps, cond, false, feature_at, first_below, get_or, get_or-map, held_among, held_in, inr}
use Rattle.cargo_toml_features.proofs.Cited.{is_below, length, length-map, map, map-set, names_in, names_of, nth_text, others_ascend, refl, rules, set, set-get_or, subst, suc, sym, true, zero, ℕ, ◌<◌, ◌∙◌, ◌∷◌, ◌≡◌}
use Rattle.cargo_toml_features.proofs.ByPlace.{among_at}

module _ {V : Type 0} where
  -- a name that isn't there has no value
  pub held_missing : (ns : List Text) (vs : List (Option V)) (f : Text) → (¬ Among ns f) → held_among ns vs f ≡ None
  held_missing [] vs f gone = refl
  held_missing (n ∷ ns) [] f gone = refl
  held_missing (n ∷ ns) (v ∷ vs) f gone = grind (arith, common_steps, bytes_eq-Decides, held_missing ns vs f)

  -- under the name of a place stands its value
  pub held_at : (ns : List Text) (vs : List (Option V)) (i : ℕ) (d : Option V) → Ascend ns → length vs ≡ length ns → i < length ns → held_among ns vs (nth_text ns i) ≡ get_or vs i d
  held_at [] vs i d up same below = absurd (omega arith)
  held_at (n ∷ ns) [] i d up same below = absurd (omega arith)
  held_at (n ∷ ns) (v ∷ vs) zero d up same below = ap (λ t. cond t v (held_among ns vs n)) ((bytes_eq-Decides n n).1 refl)
  held_at (n ∷ ns) (v ∷ vs) (suc i) d up same below = go (bytes_eq (nth_text ns i) n) refl (held_at ns vs i d (others_ascend n ns up) (omega arith) (omega arith))
    where
      value_inside : i < length ns
      value_inside = omega arith

      go : (t : Bool) → bytes_eq (nth_text ns i) n ≡ t → held_among ns vs (nth_text ns i) ≡ get_or vs i d → cond t v (held_among ns vs (nth_text ns i)) ≡ get_or vs i d
      go true on later = absurd (below_one_way n n (apart on) (apart on))
        where
          apart : bytes_eq (nth_text ns i) n ≡ true → IsTrue (is_below n n)
          apart on = subst (λ x. IsTrue (is_below n x)) ((bytes_eq-Decides (nth_text ns i) n).0 on) (first_below n ns up (nth_text ns i) (among_at ns i [] value_inside))
      go false off later = later

  -- a value is put in a place
  pub held_set : (ns : List Text) (vs : List (Option V)) (i : ℕ) (o : Option V) → Ascend ns → length vs ≡ length ns → i < length ns
      → (f : Text) → held_among ns (set vs i o) f ≡ cond (bytes_eq f (nth_text ns i)) o (held_among ns vs f)
  held_set [] vs i o up same below f = absurd (omega arith)
  held_set (n ∷ ns) [] i o up same below f = absurd (omega arith)
  held_set (n ∷ ns) (v ∷ vs) zero o up same below f = grind (arith, common_steps, others_ascend, below_one_way, bytes_eq-Decides, first_below, among_at)
  held_set (n ∷ ns) (v ∷ vs) (suc i) o up same below f = ap (cond (bytes_eq f n) v) (held_set ns vs i o (others_ascend n ns up) (omega arith) (omega arith) f) ∙ go (bytes_eq f n) refl (bytes_eq f (nth_text ns i)) refl
    where
      value_inside : i < length ns
      value_inside = omega arith

      go : (s : Bool) → bytes_eq f n ≡ s → (t : Bool) → bytes_eq f (nth_text ns i) ≡ t → cond s v (cond t o (held_among ns vs f)) ≡ cond t o (cond s v (held_among ns vs f))
      go true on true there = absurd (below_one_way n n itself itself)
        where
          itself : IsTrue (is_below n n)
          itself = subst (λ x. IsTrue (is_below n x)) (sym ((bytes_eq-Decides f (nth_text ns i)).0 there) ∙ (bytes_eq-Decides f n).0 on) (first_below n ns up (nth_text ns i) (among_at ns i [] value_inside))
      go true on false there = refl
      go false off true there = refl
      go false off false there = refl

  -- names that stay, one change after another
  pub same_then : (a b c : Slots V) → HaveSameNames a b → HaveSameNames b c → HaveSameNames a c
  same_then a b c h k = record { names = k.names ∙ h.names; count = k.count ∙ h.count }

  -- the same of slots: what stands at a place, and what a new value there makes
  module _ (s : Slots V) (i : ℕ) (below : i < length s.names.items) where
    value_inside : i < length (names_in s)
    value_inside = subst (λ k. i < k) (sym (length-map s.names.items (λ (n : Bor Text). n.now))) below

    as_many_values : length s.values.items ≡ length (names_in s)
    as_many_values = s.count ∙ sym (length-map s.names.items (λ (n : Bor Text). n.now))

    pub value_there : (o : Option V) → o ≡ get_or s.values.items i o → held_in s (nth_text (names_in s) i) ≡ o
    value_there o is = held_at (names_in s) s.values.items i o s.ascend as_many_values value_inside ∙ sym is

    pub value_put : (o : Option V) (f : Text) → held_among (names_in s) (set s.values.items i o) f ≡ cond (bytes_eq f (nth_text (names_in s) i)) o (held_in s f)
    value_put o f = held_set (names_in s) s.values.items i o s.ascend as_many_values value_inside f

  -- what stands where a name is found
  pub value_found : (s : Slots V) → (ts : List (Bor Text)) (i : ℕ) (f : Text) (o : Option V) → ts ≡ s.names.items
      → ((i < length ts) × (nth_text (map (λ n. n.now) ts) i ≡ f)) → o ≡ get_or s.values.items i o → held_in s f ≡ o
  value_found v0 v1 v2 v3 v4 v5 v6 v7 = search (rules, value_there)

  -- of two values put under one name the later stays
  pub put_again : (b : Bool) (later earlier old mid new : Option V) → new ≡ cond b later mid → mid ≡ cond b earlier old → new ≡ cond b later old
  put_again v0 v1 v2 v3 v4 v5 v6 v7 = search rules

  -- a name that a search doesn't find has no value
  pub unfound : (s : Slots V) (ts : List (Bor Text)) (f : Text) → ts ≡ s.names.items → (¬ Among (map (λ n. n.now) ts) f) → held_in s f ≡ None
  unfound s ts f same gone = held_missing (names_in s) s.values.items f (λ there. gone (subst (λ us. Among (map (λ (n : Bor Text). n.now) us) f) (sym same) there))

-- a name that isn't there has no feature
pub feature_missing : (vs : List Feature) (f : Text) → (¬ Among (names_of vs) f) → feature_at vs f ≡ None
feature_missing [] f gone = refl
feature_missing (v ∷ vs) f gone = grind (arith, common_steps, bytes_eq-Decides, feature_missing vs f (λ there. gone (inr there)))

-- features are values under their names
as_held : (vs : List Feature) (f : Text) → feature_at vs f ≡ held_among (names_of vs) (map Some vs) f
as_held [] f = refl
as_held (v ∷ vs) f = ap (cond (bytes_eq f v.key.now) (Some v)) (as_held vs f)

module _ (vs : List Feature) (i : ℕ) (up : AreInOrder vs) (below : i < length vs) where
  as_many : length (map Some vs) ≡ length (names_of vs)
  as_many = length-map vs Some ∙ sym (length-map vs (λ (v : Feature). v.key.now))

  inside : i < length (names_of vs)
  inside = let long = length-map vs (λ (v : Feature). v.key.now) in omega (arith, below, long)

  -- the feature under the name of a place
  pub feature_here : (d : Feature) → feature_at vs (nth_text (names_of vs) i) ≡ Some (get_or vs i d)
  feature_here d = as_held vs _ ∙ held_at (names_of vs) (map Some vs) i (Some d) up as_many inside ∙ get_or-map Some vs i d (Some d) below

  -- in the place of a feature stands another of its name
  pub feature_set : (w : Feature) → w.key.now ≡ nth_text (names_of vs) i → (f : Text)
      → feature_at (set vs i w) f ≡ cond (bytes_eq f (nth_text (names_of vs) i)) (Some w) (feature_at vs f)
  feature_set w same f =
      as_held (set vs i w) f
      ∙ ap₂ (λ ns us. held_among ns us f) (map-set (λ (v : Feature). v.key.now) vs i w ∙ ap (set (names_of vs) i) same ∙ set-get_or (names_of vs) i []) (map-set Some vs i w)
      ∙ held_set (names_of vs) (map Some vs) i (Some w) up as_many inside f ∙ ap (cond (bytes_eq f (nth_text (names_of vs) i)) (Some w)) (sym (as_held vs f))
