-- Sets of texts, by the bytes of their keys, and actions that a feature takes over, one after another.
use Rattle.cargo_toml_resolve.proofs.Cited.{Action, BTreeMap, BTreeSet, Bool, Bor, DepAction, List, None, Option, Some, Text, [], action_at, action_of, ap, arith, bytes_eq, bytes_eq-Decides, bytes_eq_sym, cond, deref_pair, false, is_at, is_eq-slice_cmp, is_some, is_text_in, join_option, join_option_assoc, join_option_none, join_option_self, list_any-append, lookup, map, map_push, nat_cmp, not, option_map, or-false, refl, set_has, slice_cmp, ◌&&◌, ◌++◌, ◌||◌, ◌∙◌, ◌∷◌, ◌≡◌}
use Rattle.std.specs.BTreeSet as sorted

pub removed_text : (bs : Text) (s n : BTreeSet (Bor Text)) → sorted.UpdatesBy (λ x y. slice_cmp nat_cmp x.now y.now) (λ k. slice_cmp nat_cmp bs k.now) s n false → (x : Text) → set_has n x ≡ (set_has s x && not (bytes_eq x bs))
removed_text bs s n h x =
    h.0 (record { ref_ptr = (0, 0); now = x }) ∙ ap (λ t. cond t false (set_has s x)) (is_eq-slice_cmp bs x)
    ∙ go (bytes_eq bs x) (set_has s x) ∙ ap (λ t. set_has s x && not t) (bytes_eq_sym bs x)
  where
    go : (a b : Bool) → cond a false b ≡ (b && not a)
    go p b = grind arith

pub text_in_more : (ks : List (Bor Text)) (k : Bor Text) (x : Text) → is_text_in (ks ++ k ∷ []) x ≡ (is_text_in ks x || bytes_eq x k.now)
text_in_more ks k x = list_any-append _ ks (k ∷ []) ∙ ap (λ t. is_text_in ks x || t) (or-false _ ∙ is_eq-slice_cmp x k.now)

-- one more text of those that a loop adds
pub one_more : (s n n' : BTreeSet (Bor Text)) (xs : List (Bor (Bor Text))) (k : Bor (Bor Text)) (x : Text)
    → set_has n x ≡ (set_has s x || is_text_in (map (λ k. k.now) xs) x)
    → set_has n' x ≡ (set_has n x || bytes_eq x k.now.now)
    → set_has n' x ≡ (set_has s x || is_text_in (map (λ k. k.now) (xs ++ k ∷ [])) x)
one_more s n n' xs k x before now = grind (arith, is_text_in, map_push (λ (k : Bor (Bor Text)). k.now) xs k, text_in_more)

-- one more action of those that are taken over: `first` is what was there, `more` what is taken over
module _ (first more own own' : Text → Option Action) (named named' : Text → Bool) (key : Text) (a : Action) (there : more key ≡ Some a) (next : (k : Text) → named' k ≡ (named k || bytes_eq k key))
    (before : (k : Text) → own k ≡ cond (named k) (join_option (first k) (more k)) (first k))
    (now : (k : Text) → own' k ≡ join_option (own k) (cond (bytes_eq k key) (Some a) None)) where
  pub next_action : (k : Text) → own' k ≡ cond (named' k) (join_option (first k) (more k)) (first k)
  next_action k = grind (arith, join_option_assoc, join_option_self, bytes_eq-Decides, join_option_none)

pub keys_more : (xs : List (Bor (Bor Text) × Bor DepAction)) (k : Bor (Bor Text)) (a : Bor DepAction) (x : Text) → is_text_in (map (λ e. e.0.now) (xs ++ (k, a) ∷ [])) x ≡ (is_text_in (map (λ e. e.0.now) xs) x || bytes_eq x k.now.now)
keys_more xs k a x = ap (λ ys. is_text_in ys x) (map_push (λ (e : Bor (Bor Text) × Bor DepAction). e.0.now) xs (k, a)) ∙ text_in_more _ k.now x

all_read : (own first more : Option Action) (named : Bool) → own ≡ cond named (join_option first more) first → named ≡ is_some more → own ≡ join_option first more
all_read own first more p e n = grind arith

keys_of_entries : (es : List (Bor Text × DepAction)) (k : Text) → is_text_in (map (λ e. e.0) es) k ≡ is_some (option_map action_of (lookup (is_at (λ q. slice_cmp nat_cmp k q.now)) es))
keys_of_entries [] k = refl
keys_of_entries (e ∷ es) k = grind (arith, keys_of_entries es k, is_text_in (map (λ e. e.0) es) k)

keys_of_items : (xs : List (Bor (Bor Text) × Bor DepAction)) → map (λ e. e.0.now) xs ≡ map (λ (e : Bor Text × DepAction). e.0) (map deref_pair xs)
keys_of_items [] = refl
keys_of_items (x ∷ xs) = ap (λ ys. x.0.now ∷ ys) (keys_of_items xs)

-- once all actions have had their turn
pub all_joined : (m : BTreeMap (Bor Text) DepAction) (yielded : List (Bor (Bor Text) × Bor DepAction)) → map deref_pair yielded ≡ m.entries → (own first : Option Action) (k : Text)
    → own ≡ cond (is_text_in (map (λ e. e.0.now) yielded) k) (join_option first (action_at m k)) first → own ≡ join_option first (action_at m k)
all_joined m yielded all own first k e = grind (arith, all_read, is_text_in, keys_of_items yielded, keys_of_entries)
