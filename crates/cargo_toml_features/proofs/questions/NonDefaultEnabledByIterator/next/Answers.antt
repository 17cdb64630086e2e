-- The next name that an iterator without `default` yields.
use Rattle.cargo_toml_features.proofs.Cited.{Bool, Bor, CalledAt, FoldsTo, IfSome, List, MatchOption, Mut, None, Option, Some, TakesFirst, Text, YieldsFirst, YieldsThen, [], ap, arith, bytes_eq, codes, common_steps, cond, deref, false, filter, filter-append, map, not, option_copied, refl, rest_so_far, rules, subst, sym, tests, true, without_default, ◌++◌, ◌∙◌, ◌∷◌, ◌≡◌}
use Rattle.cargo_toml_features.proofs.questions.NonDefaultEnabledByIterator.next.Goals as goal

module _ {X F : Type 0} (g : Mut F (Bor (Bor X) × Unit {0}) Bool) (test : X → Bool) (f : F) (pure : (x : Bor X) (b : Bool) (q : F) → CalledAt g f x b q → (q ≡ f) × (b ≡ test x.now)) where
  -- the items before the one that is found all fail the test
  skipped : (p : F) (xs : List (Bor X)) (j : F) → p ≡ f → FoldsTo (λ p x q. CalledAt g p x false q) p xs j → (filter test (map deref xs) ≡ []) × (j ≡ f)
  skipped p [] j e h = (refl, sym h ∙ e)
  skipped p (x ∷ xs) j e h =
      let now = pure x false h.0 (subst (λ q. CalledAt g q x false h.0) e h.1) in
      let rest = skipped h.0 xs j now.0 h.2 in
      (ap (λ b. cond b (x.now ∷ filter test (map deref xs)) (filter test (map deref xs))) (sym now.1) ∙ rest.0, rest.1)

  -- what `find` gives is the first that passes, and what is left is what passes of the rest
  first_passing : (s u : List X) (r : Option (Bor X)) (xs : List (Bor X)) (j : F) → YieldsThen (TakesFirst deref) s xs r u → FoldsTo (λ p x q. CalledAt g p x false q) f xs j → IfSome r (λ x. (h : F) × CalledAt g j x true h)
      → MatchOption r ((filter test s ≡ []) × (filter test u ≡ [])) (λ x. filter test s ≡ x.now ∷ filter test u)
  first_passing s u r xs j y h passes = go r y.2 passes
    where
      none_before : filter test s ≡ filter test y.0
      none_before = ap (filter test) (rest_so_far deref xs s y.0 y.1) ∙ filter-append test (map deref xs) y.0 ∙ ap (λ l. l ++ filter test y.0) (skipped f xs j refl h).0

      go : (r : Option (Bor X)) → TakesFirst deref y.0 r u → IfSome r (λ x. (h : F) × CalledAt g j x true h) → MatchOption r ((filter test s ≡ []) × (filter test u ≡ [])) (λ x. filter test s ≡ x.now ∷ filter test u)
      go None e k = (none_before ∙ ap (filter test) e.0, ap (filter test) e.1)
      go (Some x) e k =
          let now = pure x true k.0 (subst (λ q. CalledAt g q x true k.0) (skipped f xs j refl h).1 k.1) in
          none_before ∙ ap (filter test) e ∙ ap (λ b. cond b (x.now ∷ filter test u) (filter test u)) (sym now.1)

-- the same of a copy of what was found, where `all` is what passes of the list
first_copied : {X : Type 0} (all rest : List X) (r : Option (Bor X)) (r' : Option X) → r' ≡ option_copied r → MatchOption r ((all ≡ []) × (rest ≡ [])) (λ x. all ≡ x.now ∷ rest)
    → MatchOption r' ((all ≡ []) × (rest ≡ [])) (λ x. all ≡ x ∷ rest)
first_copied {X} all rest r r' e h = grind (arith, common_steps)

pub returns-clause-steps : goal.returns-clause-steps
returns-clause-steps c =
    let ran = c.find.ensures.ran in
    let first = first_passing _ (λ k. not (bytes_eq k.now (codes "default"))) _ (λ x b q k. search (rules, tests)) _ _ _ ran.0 ran.1 ran.2 ran.3 ran.4 in
    let copied = first_copied (without_default c.self.inside.names) (without_default c.find.new.self) c.find.result c.copied.result c.copied.ensures first in
    subst (λ (names : List (Bor Text)). YieldsFirst (λ n. n) names c.copied.result (without_default c.find.new.self)) c.self.view_is copied

pub returns-clause-goes : goal.returns-clause-goes
returns-clause-goes c = let steps = returns-clause-steps c in grind (arith, common_steps)
