use Rattle.cargo_toml_bench.proofs.Cited.{Bool, List, [], arith, bytes_eq_sym, cond, get_or, hash_set_updates_text, length, list_any, map, map_push, or-false, or_assoc, string_bytes, sym, take, take_more, true, ℕ, ◌++◌, ◌+◌, ◌<◌, ◌||◌, ◌∷◌, ◌≡◌}
use Rattle.std.specs.Str.{bytes_eq}
use Rattle.cargo_toml_bench.proofs.in_memory.set_of.Goals as goal

-- A set of texts that takes one more.
any-push : (ts : List (List ℕ)) (u t : List ℕ) → list_any (bytes_eq t) (ts ++ u ∷ []) ≡ list_any (bytes_eq t) ts || bytes_eq t u
any-push [] u t = or-false (bytes_eq t u)
any-push (v ∷ ts) u t = rw (any-push ts u t) (sym (or_assoc (bytes_eq t v) (list_any (bytes_eq t) ts) (bytes_eq t u)))

or-cond : (a b : Bool) → cond b true a ≡ a || b
or-cond a b = grind arith

-- one more text in the set, and in the list
has_more : {X : Type 0} (f : X → List ℕ) (xs : List X) (i : ℕ) (x : X) (bs t : List ℕ) → i < length xs → x ≡ get_or xs i x → bs ≡ f x →
    (had now : Bool) → had ≡ list_any (bytes_eq t) (map f (take i xs)) → now ≡ cond (bytes_eq bs t) true had → now ≡ list_any (bytes_eq t) (map f (take (i + 1) xs))
has_more f xs i x bs t below read same had now h e = grind (arith, take_more xs i x below, map_push f (take i xs) x, any-push (map f (take i xs)) (f x) t, bytes_eq_sym t bs, or-cond had (bytes_eq bs t))

pub loop-name-preserved : goal.loop-name-preserved
loop-name-preserved c = λ t.
    let bs = string_bytes c.in_ok-clone.field-0 in
    let e = hash_set_updates_text bs c.loop-name.set c.insert.new.self true c.in_ok-insert.ensures.updates t in
    has_more (λ s. string_bytes s) c.args.names.now c.loop-name.name-index c.name-item.result bs t (omega arith) c.name-item.is c.in_ok-clone.ensures.cases _ _ (c.loop-name.invariant t) e
