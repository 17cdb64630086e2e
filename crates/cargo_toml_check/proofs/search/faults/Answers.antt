use Rattle.cargo_toml_check.proofs.Cited.{Bool, Fault, List, Part, [], blamed_parts, false, if◌then◌else◌, inner_paths, is_some, map, or_own, path_of, reads, refl, sym, true, view, ◌↔◌, ◌∷◌, ◌≡◌}
use Rattle.cargo_toml_check.proofs.search.faults.Goals as goal

cons_some : {A : Type 0} (x : A) (xs : List A) → x ∷ xs ≡ [] → ⊥
cons_some x xs e = cc

-- nothing is told just where nothing is at fault
silent_by : (read : Bool) (p : List Part) (inner : List (List Part)) (fs : List Fault) → map path_of fs ≡ (if read then [] else or_own p inner)
    → (fs ≡ []) ↔ (read ≡ true)
silent_by true p inner [] e = (λ _. refl, λ _. refl)
silent_by true p inner (f ∷ fs) e = absurd (cons_some _ _ e)
silent_by false p [] [] e = absurd (cons_some _ _ (sym e))
silent_by false p (x ∷ xs) [] e = absurd (cons_some _ _ (sym e))
silent_by false p inner (f ∷ fs) e = (λ none. absurd (cons_some f fs none), λ (t : false ≡ true). absurd cc)

pub returns-clause-silent : goal.returns-clause-silent
returns-clause-silent c =
    let d = view c.args.tree.now in
    let found = rw (c.new-path.ensures.items, c.new-found.ensures.items) at c.in_ok-blame.ensures.found in
    silent_by (is_some (reads d)) [] (inner_paths [] d (blamed_parts [] d)) _ found
