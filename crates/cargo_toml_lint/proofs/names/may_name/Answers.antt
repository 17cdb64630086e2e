use Rattle.cargo_toml_lint.proofs.Cited.{◌&&◌, ◌<◌, ◌∷◌, ◌≡◌, [], all_from_yields_List, ap, arith, chars, false, get_or, length, List, may_follow, may_start, None, Option, option_map_or, refl, rules, slice_get, Some, tests, YieldsList-end, YieldsList-from_chars, YieldsList-turn, ℕ}
use Rattle.cargo_toml_lint.proofs.names.may_name.Goals as goal

at_first : (all : List ℕ) (r : Option ℕ)
    → ((x : ℕ) → r ≡ Some x → (0 < length all) × (x ≡ get_or all 0 x)) → (r ≡ None → [] ≡ all)
    → r ≡ slice_get all 0
at_first [] (Some x) some none = let lt = (some x refl).0 in absurd (omega (arith, lt))
at_first [] None some none = refl
at_first (y ∷ ys) (Some x) some none = ap Some (some x refl).1
at_first (y ∷ ys) None some none = let same : [] ≡ y ∷ ys = none refl in absurd (cc)

pub returns : goal.returns
returns c =
    let head : c.next-first.result ≡ slice_get (chars c.args.name.now) 0 = search (rules, YieldsList-from_chars, at_first, YieldsList-turn, YieldsList-end) in
    let begins : c.is_some_and-begins.result ≡ option_map_or (may_start c.args.of_feature) (slice_get (chars c.args.name.now) 0) false = rw (← head) (search (rules, tests)) in
    let follow = all_from_yields_List (may_follow c.args.of_feature) _ _ _ c.all.ensures.ran (YieldsList-from_chars c.args.name.now c.utf8.name cc) (λ x b q k. search (rules, tests)) in
    λ i. begins i && follow i
