use Rattle.cargo_toml_check.proofs.Cited.{Bool, Fault, List, Part, [], ap, arith, blamed_parts, common_steps, false, if◌then◌else◌, inner_paths, is_some, length, map, map-append, or_own, part_of, path_of, reads_alone, true, view, ◌++◌, ◌<◌, ◌∙◌, ◌∷◌, ◌≡◌}
use Rattle.cargo_toml_check.proofs.search.+blame.Goals as goal

-- what is told of a part whose own parts have something at fault
told_inner : (read : Bool) (p : List Part) (inner before : List (List Part)) (fs : List Fault) → read ≡ false → map path_of fs ≡ inner → 0 < length fs
    → before ++ map path_of fs ≡ before ++ (if read then [] else or_own p inner)
told_inner true p inner before fs off same some = absurd cc
told_inner false p inner before [] off same some = absurd (omega (arith, some))
told_inner false p inner before (f ∷ fs) off same some = ap (λ xs. before ++ or_own p xs) same

pub blame-returns-clause-found : goal.blame-returns-clause-found
blame-returns-clause-found t c =
    let p = map part_of c.args.path.now.items in
    let d = view c.args.part.now in
    let fs = c.blame_parts.new.found.items in
    let read : is_some (reads_alone p d) ≡ false = grind (arith, common_steps) in
    let some : 0 < length fs = grind (arith, common_steps) in
    ap (map path_of) c.in_ok-append.ensures.items ∙ map-append path_of c.args.found.now.items fs
    ∙ told_inner (is_some (reads_alone p d)) p (inner_paths p d (blamed_parts p d)) (map path_of c.args.found.now.items) fs
    read (rw c.new-inner.ensures.items at c.in_ok-blame_parts.ensures.found) some
