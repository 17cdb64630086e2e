-- The parts of an action text, and one more action on a dependency.
use Rattle.cargo_toml_features.proofs.Cited.{Action, BTreeMap, Bool, Bor, DepAction, List, None, Option, Some, Text, [], action_at, action_of, arith, bytes_eq, bytes_eq-Decides, bytes_eq_sym, common_steps, cond, false, is_at, join, join_option, join_option_none, length, list_any, lookup, nat_cmp, option_map, position_or_len, refl, slice_cmp, unwrap_or, ℕ, ◌∷◌, ◌≡◌}

-- where no element passes, the search runs to the end
pub none_found : (p : ℕ → Bool) (xs : List ℕ) → position_or_len p xs ≡ length xs → list_any p xs ≡ false
none_found p [] e = refl
none_found p (x ∷ xs) e = grind (arith, common_steps, none_found p xs)

-- what a list of entries holds at a text
abbrev entry_at : List (Bor Text × DepAction) → Text → Option DepAction
entry_at es k = lookup (is_at (λ q. slice_cmp nat_cmp k q.now)) es

-- one more action on the key; the map is told by its entries, since it has no name after `entry`
pub joined_at : (old : BTreeMap (Bor Text) DepAction) (new : List (Bor Text × DepAction)) (key : Text) (a : Action) (first held made : DepAction)
    → ((k : Text) → bytes_eq key k ≡ false → entry_at new k ≡ entry_at old.entries k)
    → entry_at new key ≡ Some made
    → join (action_of first) a ≡ a → held ≡ unwrap_or (entry_at old.entries key) first
    → action_of made ≡ join (action_of held) a
    → (k : Text) → option_map action_of (entry_at new k) ≡ join_option (action_at old k) (cond (bytes_eq k key) (Some a) None)
joined_at old new key a first held made others there neutral held_is made_is k = grind (arith, common_steps, bytes_eq-Decides, bytes_eq_sym, join_option_none)
