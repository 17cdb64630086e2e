-- Features are made, and what lists say of a key.
use Rattle.cargo_toml_features.proofs.Cited.{drop, set, Global, String, action_in, item_in, string_bytes, AllByRecursion, Among, IsOnce, bytes_eq_refl, false_from_ne_true, inl, inr, is_redundant, is_reserved, item_of, join, joined_action, map-append, not, or_assoc, Action, ActionText, AreMadeOf, BTreeMap, BTreeSet, Bool, Bor, DepAction, Entry, Feature, IsMadeOf, Item, List, ListItem, Listed, Name, None, On, Option, Some, Text, Vertex, [], action_at, action_on, acts_on, ap, ap₂, arith, bytes_eq, bytes_eq-Decides, common_steps, cond, false, first_target, fold_push, get_or, is_some, item_names, items, join_option, join_option_none, joined_from, length, list_any, list_any-append, lookup, map, map_push, option_map, option_map_or, or-false, refl, reserves, rules, said_by, set_has, subst, sym, take, take_more, texts_in, thinned, true, unwrap_or, without_redundant, ℕ, ◌&&◌, ◌++◌, ◌+◌, ◌<◌, ◌||◌, ◌∙◌, ◌∷◌, ◌≡◌}
use Rattle.std.proofs.Common.{add-zero, ◌-◌}
use Rattle.std.proofs.lemmas.List.{drop-drop, drop-set-lt, get_or-drop, length-drop, take_more_set}
use Rattle.cargo_toml_features.proofs.{ByPlace.taken_more}
use Rattle.cargo_toml_features.specs.Made as made

-- what an item says, by whether it acts
pub acting : (i : ListItem) → i.acts ≡ true → said_by i ≡ On i.said.target.now (action_in i.said)
acting i on = ap (λ b. cond b (On i.said.target.now (action_in i.said)) (Name i.said.target.now)) on

pub naming : (i : ListItem) → i.acts ≡ false → said_by i ≡ Name i.said.target.now
naming i off = ap (λ b. cond b (On i.said.target.now (action_in i.said)) (Name i.said.target.now)) off

-- one more action on k
joined_push : (o : Option Action) (is : List Item) (i : Item) (k : Text) → joined_from o (is ++ i ∷ []) k ≡ join_option (joined_from o is k) (action_on k i)
joined_push o is i k = fold_push (λ o j. join_option o (action_on k j)) o is i

named_push : (is : List Item) (i : Item) (x : Text) → list_any (item_names x) (is ++ i ∷ []) ≡ (list_any (item_names x) is || item_names x i)
named_push is i x = list_any-append (item_names x) is (i ∷ []) ∙ ap (λ b. list_any (item_names x) is || b) (or-false _)

module _ (v : Vertex) (is : List Item) (w : Feature) (h : IsMadeOf v is w) where
  -- one more action
  pub made_on : (i : Item) (key : Text) (a : Action) → i ≡ On key a → (deps : BTreeMap (Bor Text) DepAction)
      → ((q : Text) → action_at deps q ≡ join_option (action_at w.enables_deps q) (cond (bytes_eq q key) (Some a) None)) → IsMadeOf v (is ++ i ∷ []) (record w { enables_deps = deps })
  made_on i key a is_on deps more = grind (arith, common_steps, named_push, or-false, joined_push)

  -- one more name
  pub made_name : (i : Item) (y : Text) → i ≡ Name y → (names : BTreeSet (Bor Text)) → ((x : Text) → set_has names x ≡ (set_has w.enables_features x || bytes_eq x y))
      → IsMadeOf v (is ++ i ∷ []) (record w { enables_features = names })
  made_name i y is_name names more = grind (arith, common_steps, named_push, joined_push, join_option_none)

-- the items so far, and one more
pub items_more : (xs : List ListItem) (j : ℕ) (x : ListItem) → j < length xs → x ≡ get_or xs j x → map said_by (take (j + 1) xs) ≡ map said_by (take j xs) ++ said_by x ∷ []
items_more xs j x inside is = taken_more said_by xs j x x inside is

pub items_next : (xs : List ListItem) (j : ℕ) (d : ListItem) → j < length xs → map said_by (take (j + 1) xs) ≡ map said_by (take j xs) ++ said_by (get_or xs j d) ∷ []
items_next xs j d inside = ap (map said_by) (take_more xs j d inside) ∙ map_push said_by (take j xs) (get_or xs j d)

-- one more feature
pub one_made : (items : List ListItem) (vs : List Vertex) (ws : List Feature) (v : Vertex) (w : Feature) → AreMadeOf items vs ws → IsMadeOf v (made.items_of items v) w → AreMadeOf items (vs ++ v ∷ []) (ws ++ w ∷ [])
one_made items [] [] v w h is = (is, tt)
one_made items [] (x ∷ ws) v w h is = absurd h
one_made items (u ∷ vs) [] v w h is = absurd h
one_made items (u ∷ vs) (x ∷ ws) v w h is = (h.0, one_made items vs ws v w h.1 is)

pub turn_made : (items : List ListItem) (vs : List Vertex) (j : ℕ) (v : Vertex) (ws new : List Feature) (w : Feature) → j < length vs → v ≡ get_or vs j v
    → AreMadeOf items (take j vs) ws → IsMadeOf v (made.items_of items v) w → new ≡ ws ++ w ∷ [] → AreMadeOf items (take (j + 1) vs) new
turn_made items vs j v ws new w inside is h one put =
    subst (λ us. AreMadeOf items us new) (sym (take_more vs j v inside ∙ ap (λ x. take j vs ++ x ∷ []) (sym is)))
    (subst (AreMadeOf items (take j vs ++ v ∷ [])) (sym put) (one_made items (take j vs) ws v w h one))

-- ---- thinning
module _ (E : Text → List Entry) where
  abbrev left : Text → Action → Action
  left k = without_redundant (first_target (E k))

  thinned_names : (x : Text) (i : Item) → item_names x (thinned E i) ≡ item_names x i
  thinned_names x (Name y) = refl
  thinned_names x (On k a) = refl

  pub names_thinned : (x : Text) (is : List Item) → list_any (item_names x) (map (thinned E) is) ≡ list_any (item_names x) is
  names_thinned x [] = refl
  names_thinned x (i ∷ is) = ap₂ (λ a b. a || b) (thinned_names x i) (names_thinned x is)

  thinned_on : (k : Text) (i : Item) → action_on k (thinned E i) ≡ option_map (left k) (action_on k i)
  thinned_on k (Name y) = refl
  thinned_on k (On q a) = go (bytes_eq k q) refl
    where
      go : (b : Bool) → bytes_eq k q ≡ b → cond b (Some (left q a)) None ≡ option_map (left k) (cond b (Some a) None)
      go true same = ap (λ t. Some (left t a)) (sym ((bytes_eq-Decides k q).0 same))
      go false off = refl

  spread : (a b n : Bool) → ((a || b) && n) ≡ ((a && n) || (b && n))
  spread true true true = refl
  spread true true false = refl
  spread true false true = refl
  spread true false false = refl
  spread false b n = refl

  -- what is left of two actions is the join of what is left of each
  left_joins : (k : Text) (a b : Action) → left k (join a b) ≡ join (left k a) (left k b)
  left_joins k a b = λ i. record {
    is_conditional = a.is_conditional && b.is_conditional;
    is_dep_only = a.is_dep_only || b.is_dep_only;
    features = λ x. spread (a.features x) (b.features x) (not (is_redundant (first_target (E k)) x)) i;
  }

  left_option : (k : Text) (o p : Option Action) → option_map (left k) (join_option o p) ≡ join_option (option_map (left k) o) (option_map (left k) p)
  left_option k None p = refl
  left_option k (Some a) None = refl
  left_option k (Some a) (Some b) = ap Some (left_joins k a b)

  -- so thinning each item thins what they come to
  pub joined_thinned : (k : Text) (o : Option Action) (is : List Item) → joined_from (option_map (left k) o) (map (thinned E) is) k ≡ option_map (left k) (joined_from o is k)
  joined_thinned k o [] = refl
  joined_thinned k o (i ∷ is) =
      ap (λ p. joined_from (join_option (option_map (left k) o) p) (map (thinned E) is) k) (thinned_on k i)
      ∙ ap (λ p. joined_from p (map (thinned E) is) k) (sym (left_option k o (action_on k i)))
      ∙ joined_thinned k (join_option o (action_on k i)) is

-- ---- items, each of which is thinned in its turn
pub one_thinned : (E : Text → List Entry) (i : ℕ) (old now new : List ListItem) (x d : ListItem) → i < length now → drop i now ≡ drop i old → new ≡ set now i x
    → said_by x ≡ thinned E (said_by (get_or now i d)) → map said_by (take i now) ≡ map (thinned E) (map said_by (take i old))
    → map said_by (take (i + 1) new) ≡ map (thinned E) (map said_by (take (i + 1) old))
one_thinned E i old now new x d inside rest put one h =
    ap (λ xs. map said_by (take (i + 1) xs)) put
    ∙ ap (map said_by) (take_more_set now i x inside)
    ∙ map_push said_by (take i now) x
    ∙ ap₂ (λ xs y. xs ++ y ∷ []) h (one ∙ ap (λ q. thinned E (said_by q)) same)
    ∙ sym (map_push (thinned E) (map said_by (take i old)) (said_by (get_or old i d)))
    ∙ ap (map (thinned E)) (sym (map_push said_by (take i old) (get_or old i d)))
    ∙ ap (λ xs. map (thinned E) (map said_by xs)) (sym (take_more old i d long))
  where
    long : i < length old
    long =
        let a : length (drop i now) ≡ length now - i = length-drop i now in
        let b : length (drop i old) ≡ length old - i = length-drop i old in
        let e : length (drop i now) ≡ length (drop i old) = ap length rest in
        omega (arith, a, b, e, inside)

    same : get_or now i d ≡ get_or old i d
    same = sym (ap (λ n. get_or now n d) (add-zero i)) ∙ sym (get_or-drop i now 0 d) ∙ ap (λ xs. get_or xs 0 d) rest ∙ get_or-drop i old 0 d ∙ ap (λ n. get_or old n d) (add-zero i)

pub rest_same : (i : ℕ) (old now new : List ListItem) (x : ListItem) → drop i now ≡ drop i old → new ≡ set now i x → drop (i + 1) new ≡ drop (i + 1) old
rest_same i old now new x rest put =
    ap (drop (i + 1)) put ∙ drop-set-lt (i + 1) now i x (omega arith)
    ∙ sym (drop-drop 1 i now) ∙ ap (drop 1) rest ∙ drop-drop 1 i old

-- ---- what lists say of a key
module _ (k : Text) where
  abbrev is_dep_only : Option Action → Bool
  is_dep_only o = option_map_or (λ a. a.is_dep_only) o false

  some_joined : (o p : Option Action) → is_some (join_option o p) ≡ (is_some o || is_some p)
  some_joined v0 v1 = search rules

  dep_only_joined : (o p : Option Action) → is_dep_only (join_option o p) ≡ (is_dep_only o || is_dep_only p)
  dep_only_joined None p = refl
  dep_only_joined (Some a) None = sym (or-false a.is_dep_only)
  dep_only_joined (Some a) (Some b) = refl

  some_of : (o : Option Action) (is : List Item) → is_some (joined_from o is k) ≡ (is_some o || list_any (acts_on k) is)
  some_of o [] = sym (or-false (is_some o))
  some_of o (i ∷ is) = some_of (join_option o (action_on k i)) is ∙ ap (λ b. b || list_any (acts_on k) is) (some_joined o (action_on k i)) ∙ or_assoc (is_some o) (acts_on k i) (list_any (acts_on k) is)

  dep_only_of : (o : Option Action) (is : List Item) → is_dep_only (joined_from o is k) ≡ (is_dep_only o || list_any (reserves k) is)
  dep_only_of o [] = sym (or-false (is_dep_only o))
  dep_only_of o (i ∷ is) = dep_only_of (join_option o (action_on k i)) is ∙ ap (λ b. b || list_any (reserves k) is) (dep_only_joined o (action_on k i)) ∙ or_assoc (is_dep_only o) (reserves k i) (list_any (reserves k) is)

  -- a test of each item of all lists is one of each list's
  any_said : (test : Item → Bool) (listed : Listed) → list_any test (map item_of (texts_in listed)) ≡ list_any (λ e. list_any test (map item_of e.1)) listed
  any_said test [] = refl
  any_said test (e ∷ es) =
      ap (list_any test) (map-append item_of e.1 (texts_in es))
      ∙ list_any-append test (map item_of e.1) (map item_of (texts_in es))
      ∙ ap (λ b. list_any test (map item_of e.1) || b) (any_said test es)

  any_same : (p q : Text × List Text → Bool) (es : Listed) → ((e : Text × List Text) → p e ≡ q e) → list_any p es ≡ list_any q es
  any_same p q [] h = refl
  any_same p q (e ∷ es) h = ap₂ (λ a b. a || b) (h e) (any_same p q es h)

  -- what is told of k in a list by what its items come to
  abbrev told_by : (Option Action → Bool) → Text × List Text → Bool
  told_by passes e = passes (joined_from None (map item_of e.1) k)

  pub acts_somewhere : (listed : Listed) → list_any (acts_on k) (map item_of (texts_in listed)) ≡ list_any (told_by is_some) listed
  acts_somewhere listed = any_said (acts_on k) listed ∙ any_same _ _ listed (λ e. sym (some_of None (map item_of e.1)))

  pub reserves_somewhere : (listed : Listed) → list_any (reserves k) (map item_of (texts_in listed)) ≡ list_any (told_by is_dep_only) listed
  reserves_somewhere listed = any_said (reserves k) listed ∙ any_same _ _ listed (λ e. sym (dep_only_of None (map item_of e.1)))

-- ---- each entry of a table is found under its name
apart : (x y : Text) → (x ≡ y → ⊥) → bytes_eq x y ≡ false
apart x y ne = false_from_ne_true _ (λ e. ne ((bytes_eq-Decides x y).0 e))

weaken : {X : Type 0} (P Q : X → Type 0) → ((x : X) → P x → Q x) → (xs : List X) → AllByRecursion P xs → AllByRecursion Q xs
weaken P Q f [] h = tt
weaken P Q f (x ∷ xs) h = (f x h.0, weaken P Q f xs h.1)

both : {X : Type 0} (P Q : X → Type 0) (xs : List X) → AllByRecursion P xs → AllByRecursion Q xs → AllByRecursion (λ x. P x × Q x) xs
both P Q [] g h = tt
both P Q (x ∷ xs) g h = ((g.0, h.0), both P Q xs g.1 h.1)

later_apart : (n : Text) (es : Listed) → (Among (map (λ e. e.0) es) n → ⊥) → AllByRecursion (λ e. bytes_eq e.0 n ≡ false) es
later_apart n [] not = tt
later_apart n (e ∷ es) not = (apart e.0 n (λ same. not (inl (sym same))), later_apart n es (λ a. not (inr a)))

found_each : (es : Listed) → IsOnce (map (λ e. e.0) es) → AllByRecursion (λ e. lookup (bytes_eq e.0) es ≡ Some e.1) es
found_each [] once = tt
found_each (e ∷ es) once = (
  ap (λ b. cond b (Some e.1) (lookup (bytes_eq e.0) es)) (bytes_eq_refl e.0),
  weaken _ _ (λ d h. ap (λ b. cond b (Some e.1) (lookup (bytes_eq d.0) es)) h.1 ∙ h.0) es (both _ _ es (found_each es once.1) (later_apart e.0 es once.0)),
)

list_any_same : {X : Type 0} (p q : X → Bool) (xs : List X) → AllByRecursion (λ x. p x ≡ q x) xs → list_any p xs ≡ list_any q xs
list_any_same p q [] h = refl
list_any_same p q (x ∷ xs) h = ap₂ (λ a b. a || b) h.0 (list_any_same p q xs h.1)

module _ (listed : Listed) (once : IsOnce (map (λ e. e.0) listed)) (k : Text) where
  -- what each list says of k is what the table's actions on k come to
  told_each : (passes : Option Action → Bool) → list_any (told_by k passes) listed ≡ list_any (λ e. passes (joined_action listed e.0 k)) listed
  told_each passes = list_any_same _ _ listed (weaken _ _ (λ e found. ap (λ o. passes (joined_from None (map item_of (unwrap_or o [])) k)) (sym found)) listed (found_each listed once))

  pub acted_is : list_any (acts_on k) (map item_of (texts_in listed)) ≡ list_any (λ e. is_some (joined_action listed e.0 k)) listed
  acted_is = acts_somewhere k listed ∙ told_each is_some

  pub reserved_is : list_any (reserves k) (map item_of (texts_in listed)) ≡ is_reserved listed k
  reserved_is = reserves_somewhere k listed ∙ told_each (is_dep_only k)

-- ---- the texts of one list
pub texts_more : (ts : List (String Global)) (i : ℕ) (t : String Global) (bs : Text) → i < length ts → t ≡ get_or ts i t → bs ≡ string_bytes t
    → map item_of (map string_bytes (take (i + 1) ts)) ≡ map item_of (map string_bytes (take i ts)) ++ item_of bs ∷ []
texts_more v0 v1 v2 v3 v4 v5 v6 = grind (arith, common_steps, taken_more, string_bytes, map_push)

-- what a text says as an item
pub said_of : (t : ActionText) (b : Bool) (i : Item) → b ≡ (t.is_dep_only || is_some t.dep_feature) → item_in t ≡ i → said_by (record { said = t; acts = b }) ≡ i
said_of t b i acts is = ap (λ a. cond a (On t.target.now (action_in t)) (Name t.target.now)) acts ∙ is
