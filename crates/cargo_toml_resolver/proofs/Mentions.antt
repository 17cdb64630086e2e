-- Mentions of features, counted over the features and over what binaries require.
use Rattle.std.proofs.Common.{◌≡◌, ◌≤◌, ◌+◌, Bool, true, cond, ◌&&◌, not, List, [], ◌∷◌, filter, length, count_by, bytes_eq, refl, sym, subst, inl, inr, arith}
use Rattle.std.proofs.lemmas.{Bool.and_from, List.length-map, List.Sums.length-filter, Slice.Eq.bytes_eq-Decides}
use Rattle.cargo_toml_graph.{specs.Action.Text, specs.Bins.mentions, specs.Reach.Among, specs.Reach.IsOnce, proofs.Texts.apart_false}
use Rattle.cargo_toml_features.specs.OwnBins.{own_of}

abbrev Required : Type 0
Required = List (Text × Text)

-- those of r, and the others that pass a test
one_more : (b c : Bool) (q : Text × Text) (of others all : Required) → (b ≡ true → c ≡ true) → length of + length others ≤ length all
    → length (cond b (q ∷ of) of) + length (cond (c && not b) (q ∷ others) others) ≤ length (cond c (q ∷ all) all)
one_more b c q of others all h less = grind arith

apart : (p : Text → Bool) (r : Text) → p r ≡ true → (qs : Required)
    → length (filter (λ q. bytes_eq r q.0) qs) + length (filter (λ q. p q.0 && not (bytes_eq r q.0)) qs) ≤ length (filter (λ q. p q.0) qs)
apart p r passes [] = omega arith
apart p r passes (q ∷ qs) = one_more (bytes_eq r q.0) (p q.0) q _ _ _ (λ e. subst (λ x. p x ≡ true) ((bytes_eq-Decides r q.0).0 e) passes) (apart p r passes qs)

counted : (p : Text → Bool) (qs : Required) (rs : List Text) → IsOnce rs → ((r : Text) → Among rs r → p r ≡ true) → mentions (own_of qs) rs ≤ length (filter (λ q. p q.0) qs)
counted p qs [] once passes = omega arith
counted p qs (r ∷ rs) once passes =
    let rest = counted (λ x. p x && not (bytes_eq r x)) qs rs once.1 (λ s i. and_from _ _ (passes s (inr i)) (apart_false r s (λ e. once.0 (subst (Among rs) (sym e) i)))) in
    omega (arith, rest, apart p r (passes r (inl refl)) qs, length-map (filter (λ (q : Text × Text). bytes_eq r q.0) qs) (λ q. q.1))

-- the mentions of features that pass a test are at most the requirements of such
pub mentions_counted : (p : Text → Bool) (qs : List (Text × Text)) (rs : List Text) → IsOnce rs → ((r : Text) → Among rs r → p r ≡ true) → mentions (own_of qs) rs ≤ count_by (λ q. p q.0) qs
mentions_counted p qs rs once passes = subst (λ n. mentions (own_of qs) rs ≤ n) (length-filter (λ (q : Text × Text). p q.0) qs) (counted p qs rs once passes)
