-- What dependencies have anyway, by the places of their keys.
use Rattle.cargo_toml_features.proofs.Cited.{Entry, FeatureDependency, List, None, Option, RedundantFeatures, Text, [], ap, arith, common_steps, first_target, get_or, has_redundant, held_among, is_redundant, length, option_map, recorded_in, recorded_of, refl, rules, take, take_more, ℕ, ◌++◌, ◌+◌, ◌<◌, ◌∷◌, ◌≡◌}

-- of no record there is no target
pub no_target : (es : List Entry) → None ≡ recorded_of es → None ≡ first_target es
no_target v0 v1 = search rules

-- what is recorded of a key, and what its dependency has anyway
abbrev pub HasAnyway : Option FeatureDependency → Option RedundantFeatures → Type 0
HasAnyway d r =
    (es : List Entry) → option_map recorded_in d ≡ recorded_of es → (x : Text)
    → has_redundant r x ≡ is_redundant (first_target es) x

pub none_anyway : HasAnyway None None
none_anyway es none x = ap (λ t. is_redundant t x) (no_target es none)

-- the same in each place
abbrev pub HaveAnyway : List (Option FeatureDependency) → List (Option RedundantFeatures) → Type 0
HaveAnyway [] [] = Unit {0}
HaveAnyway [] (r ∷ rs) = ⊥
HaveAnyway (d ∷ ds) [] = ⊥
HaveAnyway (d ∷ ds) (r ∷ rs) = HasAnyway d r × HaveAnyway ds rs

pub one_more : (ds : List (Option FeatureDependency)) (rs : List (Option RedundantFeatures))
    (d : Option FeatureDependency) (r : Option RedundantFeatures) → HaveAnyway ds rs
    → HasAnyway d r → HaveAnyway (ds ++ d ∷ []) (rs ++ r ∷ [])
one_more [] [] d r h is = (is, tt)
one_more [] (s ∷ rs) d r h is = absurd h
one_more (e ∷ ds) [] d r h is = absurd h
one_more (e ∷ ds) (s ∷ rs) d r h is = (h.0, one_more ds rs d r h.1 is)

pub turn_more : (ds : List (Option FeatureDependency)) (i : ℕ) (d : Option FeatureDependency)
    (rs new : List (Option RedundantFeatures)) (r : Option RedundantFeatures) → i < length ds
    → d ≡ get_or ds i d → HaveAnyway (take i ds) rs → HasAnyway d r → new ≡ rs ++ r ∷ []
    → HaveAnyway (take (i + 1) ds) new
turn_more v0 v1 v2 v3 v4 v5 v6 v7 v8 v9 v10 = grind (arith, common_steps, take_more, one_more)

pub as_many : (ds : List (Option FeatureDependency)) (rs : List (Option RedundantFeatures))
    → HaveAnyway ds rs → length rs ≡ length ds
as_many [] [] h = refl
as_many [] (r ∷ rs) h = absurd h
as_many (d ∷ ds) [] h = absurd h
as_many (d ∷ ds) (r ∷ rs) h = let more = as_many ds rs h.1 in omega (arith, more)

-- so it is under each name
pub under_names : (ns : List Text) (ds : List (Option FeatureDependency))
    (rs : List (Option RedundantFeatures)) → HaveAnyway ds rs → (k : Text)
    → HasAnyway (held_among ns ds k) (held_among ns rs k)
under_names [] ds rs h k = none_anyway
under_names (n ∷ ns) [] [] h k = none_anyway
under_names (n ∷ ns) [] (r ∷ rs) h k = absurd h
under_names (n ∷ ns) (d ∷ ds) [] h k = absurd h
under_names (n ∷ ns) (d ∷ ds) (r ∷ rs) h k = grind (arith, common_steps, none_anyway, under_names ns ds rs h.1 k)
