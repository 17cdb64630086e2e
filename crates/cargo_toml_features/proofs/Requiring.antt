-- Features in places, of which one after another has its turn, and binaries gained one after another.
use Rattle.cargo_toml_features.proofs.Cited.{Bool, Feature, List, None, Option, Relates, Required, RequiredAll, Requirement, Some, Text, [], ap, append-nil, append_assoc, arith, bin_requirement, bytes_eq, bytes_eq-Decides, bytes_eq_sym, common_steps, cond, feature_at, filter-append, get_or, length, map, map-append, names_of, own_of, refl, set, suc, take, zero, ℕ, ◌++◌, ◌+◌, ◌<◌, ◌∙◌, ◌∷◌, ◌≡◌}
use Rattle.cargo_toml_features.proofs.ByPlace.{taken_more}
use Rattle.std.specs.List.{filter}

-- a feature is put in the place of one with its name
pub names_set : (vs : List Feature) (i : ℕ) (w d : Feature) → i < length vs → w.key.now ≡ (get_or vs i d).key.now → names_of (set vs i w) ≡ names_of vs
names_set [] i w d below same = absurd (omega arith)
names_set (v ∷ vs) zero w d below same = ap (λ n. n ∷ names_of vs) same
names_set (v ∷ vs) (suc i) w d below same = ap (λ ns. v.key.now ∷ ns) (names_set vs i w d (omega arith) same)

nothing : (own : List Text) → own ≡ [] → (o : Option Feature) → Relates (Required own) o o
nothing v0 v1 v2 = grind (arith, common_steps, append-nil)

both : (p q r : List Text) → r ≡ p ++ q → (a b c : Option Feature) → Relates (Required p) a b → Relates (Required q) b c → Relates (Required r) a c
both v0 v1 v2 v3 v4 v5 v6 v7 v8 = grind (arith, common_steps, append_assoc)

module _ where
  pub required_more : (p q r : Text → List Text) (a b c : List Feature) → ((x : Text) → r x ≡ p x ++ q x) → RequiredAll p a b → RequiredAll q b c → RequiredAll r a c
  required_more p q r a b c same h k = record { at = λ x. both (p x) (q x) (r x) (same x) (feature_at a x) (feature_at b x) (feature_at c x) (h.at x) (k.at x) }

  -- one binary at one feature
  module _ (key by : Text) (m : List Feature) where
    one : (q : Text) (t : Bool) → bytes_eq q key ≡ t → own_of ((key, by) ∷ []) q ≡ cond t (by ∷ []) []
    one q t is = grind (arith, common_steps)

    pub required_nowhere : feature_at m key ≡ None → RequiredAll (own_of ((key, by) ∷ [])) m m
    required_nowhere gone = grind (arith, common_steps, bytes_eq-Decides, nothing, one)

    pub required_at : (n : List Feature) (old w : Feature) → feature_at m key ≡ Some old → ((q : Text) → feature_at n q ≡ cond (bytes_eq key q) (Some w) (feature_at m q))
        → Required (by ∷ []) old w → RequiredAll (own_of ((key, by) ∷ [])) m n
    required_at n old w was after is = grind (arith, common_steps, one, bytes_eq_sym, bytes_eq-Decides, nothing)

-- one requirement more
pub own_more : (r s : List (Text × Text)) (q : Text) → own_of (r ++ s) q ≡ own_of r q ++ own_of s q
own_more r s q = ap (map (λ (x : Text × Text). x.1)) (filter-append (λ (x : Text × Text). bytes_eq q x.0) r s) ∙ map-append (λ (x : Text × Text). x.1) (filter (λ (x : Text × Text). bytes_eq q x.0) r) (filter (λ (x : Text × Text). bytes_eq q x.0) s)

abbrev pub blank : Requirement
blank = record { feature = record { ref_ptr = (0, 0); now = [] }; bin = record { ref_ptr = (0, 0); now = [] } }

pub own_next : (rs : List Requirement) (i : ℕ) → i < length rs → (q : Text) → own_of (map bin_requirement (take (i + 1) rs)) q
    ≡ own_of (map bin_requirement (take i rs)) q ++ own_of (bin_requirement (get_or rs i blank) ∷ []) q
own_next rs i lt q = ap (λ xs. own_of xs q) (taken_more bin_requirement rs i (get_or rs i blank) blank lt refl) ∙ own_more (map bin_requirement (take i rs)) (bin_requirement (get_or rs i blank) ∷ []) q
