use Rattle.std.proofs.Common.{Global, List, None, Option, Some, String, [], ap, append-nil, append_assoc, map, option_to_list, string_bytes, sym, ◌++◌, ◌∙◌, ◌∷◌, ◌≡◌}
use Rattle.std.specs.List.{cons_option, filter_map}
use Rattle.cargo_toml.specs.Action.{Text}
use Rattle.cargo_toml_answers.specs.Archived.{target_in}
use Rattle.cargo_toml_answers.proofs.archive.targets_in.Goals as goal

front : (old rest : List Text) (o : Option Text) → (old ++ option_to_list o) ++ rest ≡ old ++ cons_option o rest
front old rest None = ap (λ ts. ts ++ rest) (append-nil old)
front old rest (Some x) = append_assoc old (x ∷ []) rest

one_more : (f : Text → Option Text) (old new : List Text) (k : String Global) (left more : List (String Global)) (all : List Text) → left ≡ k ∷ more → new ≡ old ++ option_to_list (f (string_bytes k))
    → old ++ filter_map f (map string_bytes left) ≡ all → new ++ filter_map f (map string_bytes more) ≡ all
one_more f old new k left more all is added before =
    ap (λ ts. ts ++ filter_map f (map string_bytes more)) added ∙ front old (filter_map f (map string_bytes more)) (f (string_bytes k))
    ∙ ap (λ ks. old ++ filter_map f (map string_bytes ks)) (sym is) ∙ before

none_left : (f : Text → Option Text) (old : List Text) (left : List (String Global)) (all : List Text) → left ≡ [] → old ++ filter_map f (map string_bytes left) ≡ all → old ≡ all
none_left f old left all is before = sym (append-nil old) ∙ ap (λ ks. old ++ filter_map f (map string_bytes ks)) (sym is) ∙ before

pub loop-path-preserved : goal.loop-path-preserved
loop-path-preserved c =
    one_more (target_in c.args.folder.now) _ _ c.in-Some.path.now _ _ _ c.in-Some.ensures.steps (rw c.as_str.ensures.value at c.in_ok-push_target.ensures) c.loop-path.invariant

pub returns : goal.returns
returns c = none_left (target_in c.args.folder.now) _ _ _ c.in-None.ensures.steps.0 c.loop-path.invariant
