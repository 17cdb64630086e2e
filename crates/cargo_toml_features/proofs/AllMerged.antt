-- What is merged once all listings and all keys are.
use Rattle.cargo_toml_features.proofs.Cited.{StandAt, arith, length-append, ◌+◌, detail_in, string_bytes, AreVertices, Ascend, Among, Bool, Bor, Detail, IfSome, IsMerged, IsVertex, List, Listing, Merge, Merged, None, Option, Some, Text, Vertex, [], ap, append_assoc, bytes_eq, bytes_eq-Decides, codes, cond, default_before, false, inl, inr, is_one_of, is_some, length, left_keys, listed_of, listing_names, lookup, map, map-append, named_details, option_map, option_or, plain_detail, refl, subst, sym, take, take_all, taken_keys, texts_in, told_names, told_of, true, unwrap_or, vertex_at, vertex_names, ℕ, ◌++◌, ◌||◌, ◌∙◌, ◌∷◌, ◌≡◌, ◌≤◌}
use Rattle.cargo_toml_features.proofs.{Merging.first_stand, Merging.rest_stand, Merging.texts_apart, ByPlace.Below, ByPlace.texts, Rising.earlier_ascend, Rising.itself, Rising.later_ascend}
use Rattle.cargo_toml_graph.proofs.SortedTexts.{first_below}

lookup-append : {X : Type 0} (f : Text) (xs ys : List (Text × X)) → lookup (bytes_eq f) (xs ++ ys) ≡ option_or (lookup (bytes_eq f) xs) (lookup (bytes_eq f) ys)
lookup-append f [] ys = refl
lookup-append {X} f (x ∷ xs) ys = go (bytes_eq f x.0) (lookup-append f xs ys)
  where
    go : (b : Bool) → lookup (bytes_eq f) (xs ++ ys) ≡ option_or (lookup (bytes_eq f) xs) (lookup (bytes_eq f) ys)
        → cond b (Some x.1) (lookup (bytes_eq f) (xs ++ ys)) ≡ option_or (cond b (Some x.1) (lookup (bytes_eq f) xs)) (lookup (bytes_eq f) ys)
    go true later = refl
    go false later = later

option_or_assoc : {X : Type 0} (a b c : Option X) → option_or a (option_or b c) ≡ option_or (option_or a b) c
option_or_assoc None b c = refl
option_or_assoc (Some x) b c = refl

option_or_none : {X : Type 0} (a : Option X) → option_or a None ≡ a
option_or_none None = refl
option_or_none (Some x) = refl

-- a name that isn't there is not looked up
told_missing : (f : Text) (ls : List Listing) → (¬ Among (listing_names ls) f) → lookup (bytes_eq f) (told_of ls) ≡ None
told_missing f [] gone = refl
told_missing f (l ∷ ls) gone = go (bytes_eq f l.name.now) refl (told_missing f ls (λ there. gone (inr there)))
  where
    go : (b : Bool) → bytes_eq f l.name.now ≡ b → lookup (bytes_eq f) (told_of ls) ≡ None → cond b (Some (map string_bytes l.actions.now, detail_in l.detail)) (lookup (bytes_eq f) (told_of ls)) ≡ None
    go true same later = absurd (gone (inl ((bytes_eq-Decides f l.name.now).0 same)))
    go false off later = later

abbrev default_text : Text
default_text = codes "default"

abbrev nothing : List Text × Detail
nothing = ([], plain_detail)

-- `default` counts as listed with nothing where it isn't listed
abbrev or_default : Text → Option (List Text × Detail) → Option (List Text × Detail)
or_default f o = option_or o (cond (bytes_eq f default_text) (Some nothing) None)

before_rest : (f : Text) (rest : List Listing) (ns : List Text) → Ascend (ns ++ (told_names (default_before rest) ++ listing_names rest)) → lookup (bytes_eq f) (default_before rest ++ told_of rest) ≡ or_default f (lookup (bytes_eq f) (told_of rest))
before_rest f [] ns up = refl
before_rest f (l ∷ ls) ns up = go (bytes_eq l.name.now default_text) refl up
  where
    go : (b : Bool) → bytes_eq l.name.now default_text ≡ b → Ascend (ns ++ (told_names (cond b [] ((default_text, nothing) ∷ [])) ++ listing_names (l ∷ ls)))
        → lookup (bytes_eq f) (cond b [] ((default_text, nothing) ∷ []) ++ told_of (l ∷ ls)) ≡ or_default f (lookup (bytes_eq f) (told_of (l ∷ ls)))
    go true same up = here (bytes_eq f l.name.now) refl
      where
        named : l.name.now ≡ default_text
        named = (bytes_eq-Decides l.name.now default_text).0 same

        here : (t : Bool) → bytes_eq f l.name.now ≡ t → cond t (Some (map string_bytes l.actions.now, detail_in l.detail)) (lookup (bytes_eq f) (told_of ls))
            ≡ option_or (cond t (Some (map string_bytes l.actions.now, detail_in l.detail)) (lookup (bytes_eq f) (told_of ls))) (cond (bytes_eq f default_text) (Some nothing) None)
        here true is = refl
        here false is = sym (ap (λ t. option_or (lookup (bytes_eq f) (told_of ls)) (cond t (Some nothing) None)) (ap (bytes_eq f) (sym named) ∙ is) ∙ option_or_none _)
    go false apart up = here (bytes_eq f default_text) refl
      where
        here : (t : Bool) → bytes_eq f default_text ≡ t → cond t (Some nothing) (lookup (bytes_eq f) (told_of (l ∷ ls))) ≡ option_or (lookup (bytes_eq f) (told_of (l ∷ ls))) (cond t (Some nothing) None)
        here true is = sym (ap (λ o. option_or o (Some nothing)) (told_missing f (l ∷ ls) gone))
          where
            gone : Among (listing_names (l ∷ ls)) f → ⊥
            gone there = itself default_text (subst (Below default_text) ((bytes_eq-Decides f default_text).0 is) (first_below default_text (listing_names (l ∷ ls)) (later_ascend ns (default_text ∷ listing_names (l ∷ ls)) up) f there))
        here false is = sym (option_or_none _)

-- what is told of a name in all
module _ (ls first rest : List Listing) (parts : ls ≡ first ++ rest) (up : Ascend (listing_names first ++ (told_names (default_before rest) ++ listing_names rest))) where
  told_split : told_of ls ≡ told_of first ++ told_of rest
  told_split = ap told_of parts ∙ map-append (λ (l : Listing). (l.name.now, (map string_bytes l.actions.now, detail_in l.detail))) first rest

  pub told_all : (f : Text) → lookup (bytes_eq f) ((told_of first ++ default_before rest) ++ told_of rest) ≡ or_default f (lookup (bytes_eq f) (told_of ls))
  told_all f =
      ap (lookup (bytes_eq f)) (append_assoc (told_of first) (default_before rest) (told_of rest))
      ∙ lookup-append f (told_of first) (default_before rest ++ told_of rest)
      ∙ ap (option_or (lookup (bytes_eq f) (told_of first))) (before_rest f rest (listing_names first) up)
      ∙ option_or_assoc (lookup (bytes_eq f) (told_of first)) (lookup (bytes_eq f) (told_of rest)) (cond (bytes_eq f default_text) (Some nothing) None)
      ∙ ap (or_default f) (sym (lookup-append f (told_of first) (told_of rest)) ∙ ap (lookup (bytes_eq f)) (sym told_split))

-- the texts and the details of a name
texts_told : (f : Text) (ls : List Listing) → lookup (bytes_eq f) (listed_of ls) ≡ option_map (λ e. e.0) (lookup (bytes_eq f) (told_of ls))
texts_told f [] = refl
texts_told f (l ∷ ls) = go (bytes_eq f l.name.now) (texts_told f ls)
  where
    go : (b : Bool) → lookup (bytes_eq f) (listed_of ls) ≡ option_map (λ e. e.0) (lookup (bytes_eq f) (told_of ls))
        → cond b (Some (map string_bytes l.actions.now)) (lookup (bytes_eq f) (listed_of ls)) ≡ option_map (λ e. e.0) (cond b (Some (map string_bytes l.actions.now, detail_in l.detail)) (lookup (bytes_eq f) (told_of ls)))
    go true later = refl
    go false later = later

details_told : (f : Text) (ls : List Listing) → lookup (bytes_eq f) (named_details ls) ≡ option_map (λ e. e.1) (lookup (bytes_eq f) (told_of ls))
details_told f [] = refl
details_told f (l ∷ ls) = go (bytes_eq f l.name.now) (details_told f ls)
  where
    go : (b : Bool) → lookup (bytes_eq f) (named_details ls) ≡ option_map (λ e. e.1) (lookup (bytes_eq f) (told_of ls))
        → cond b (Some (detail_in l.detail)) (lookup (bytes_eq f) (named_details ls)) ≡ option_map (λ e. e.1) (cond b (Some (map string_bytes l.actions.now, detail_in l.detail)) (lookup (bytes_eq f) (told_of ls)))
    go true later = refl
    go false later = later

-- what stands at a name, by what is told of it
module _ (all : List Text) (f : Text) where
  abbrev own_texts : Option (List Text × Detail) → List Text
  own_texts o = unwrap_or (option_map (λ e. e.0) o) []

  abbrev own_detail : Option (List Text × Detail) → Detail
  own_detail o = cond (is_some (option_map (λ e. e.0) o)) (unwrap_or (option_map (λ e. e.1) o) plain_detail) plain_detail

  abbrev Stands : Bool → Bool → Option (List Text × Detail) → Option Vertex → Type 0
  Stands b i o v = (is_some v ≡ ((b || is_some (option_map (λ e. e.0) o)) || i)) × IfSome v (IsVertex all f (b || is_some (option_map (λ e. e.0) o)) (own_texts o) (own_detail o))

  stands : (b i : Bool) (o : Option (List Text × Detail)) (v : Option Vertex) → Merged all (option_or o (cond b (Some nothing) None)) i f v → Stands b i o v
  stands true i (Some e) None h = absurd h
  stands true i (Some e) (Some v) h = (refl, h)
  stands false i (Some e) None h = absurd h
  stands false i (Some e) (Some v) h = (refl, h)
  stands true i None None h = absurd h
  stands true i None (Some v) h = (refl, h)
  stands false true None None h = absurd h
  stands false true None (Some v) h = (refl, h)
  stands false false None None h = (refl, tt)
  stands false false None (Some v) h = absurd cc

-- so the vertices are those of the listings and of the keys
module _ (ls first rest : List Listing) (parts : ls ≡ first ++ rest) (m : Merge) (keys : List (Bor Text)) (implied : Text → Bool)
    (up : Ascend (listing_names first ++ (told_names (default_before rest) ++ listing_names rest)))
    (in_order : Ascend (vertex_names m.all.items ++ left_keys m)) (same : m.keys.now ≡ keys) (done : length m.keys.now ≤ m.next)
    (offered : (f : Text) → is_one_of (texts keys) f ≡ implied f)
    (merged : IsMerged (texts_in (listed_of ls)) ((told_of first ++ default_before rest) ++ told_of rest) m) where
  taken : (f : Text) → is_one_of (taken_keys m) f ≡ implied f
  taken f = ap (λ ks. is_one_of (texts ks) f) (take_all m.next m.keys.now done ∙ same) ∙ offered f

  at : (f : Text) → Stands (texts_in (listed_of ls)) f (bytes_eq f default_text) (implied f) (lookup (bytes_eq f) (told_of ls)) (vertex_at m.all.items f)
  at f = stands (texts_in (listed_of ls)) f (bytes_eq f default_text) (implied f) (lookup (bytes_eq f) (told_of ls)) (vertex_at m.all.items f)
      (subst (λ t. Merged (texts_in (listed_of ls)) (or_default f (lookup (bytes_eq f) (told_of ls))) t f (vertex_at m.all.items f)) (taken f)
      (subst (λ o. Merged (texts_in (listed_of ls)) o (is_one_of (taken_keys m) f) f (vertex_at m.all.items f)) (told_all ls first rest parts up f) (merged.at f)))

  pub all_merged : AreVertices (listed_of ls) (named_details ls) implied m.all.items
  all_merged = record {
    ascend = earlier_ascend (vertex_names m.all.items) (left_keys m) in_order;
    has = λ f. (at f).0 ∙ ap (λ o. (bytes_eq f default_text || is_some o) || implied f) (sym (texts_told f ls));
    told = λ f. subst (λ o. IfSome (vertex_at m.all.items f) (IsVertex (texts_in (listed_of ls)) f (bytes_eq f default_text || is_some o) (unwrap_or o []) (cond (is_some o) (unwrap_or (lookup (bytes_eq f) (named_details ls)) plain_detail) plain_detail)))
        (sym (texts_told f ls))
        (subst (λ d. IfSome (vertex_at m.all.items f) (IsVertex (texts_in (listed_of ls)) f (bytes_eq f default_text || is_some (option_map (λ e. e.0) (lookup (bytes_eq f) (told_of ls)))) (unwrap_or (option_map (λ e. e.0) (lookup (bytes_eq f) (told_of ls))) [])
        (cond (is_some (option_map (λ e. e.0) (lookup (bytes_eq f) (told_of ls)))) (unwrap_or d plain_detail) plain_detail)))
        (sym (details_told f ls)) (at f).1);
  }

-- ---- where the lists stand: those below `default`, and the rest
module _ (ls first rest : List Listing) (parts : ls ≡ first ++ rest) where
  abbrev all_texts : List Text
  all_texts = texts_in (listed_of ls)

  abbrev first_texts : List Text
  first_texts = texts_in (listed_of first)

  abbrev rest_texts : List Text
  rest_texts = texts_in (listed_of rest)

  apart : all_texts ≡ first_texts ++ rest_texts
  apart = ap (λ xs. texts_in (listed_of xs)) parts ∙ texts_apart first rest

  pub counts : length all_texts ≡ length first_texts + length rest_texts
  counts = ap length apart ∙ length-append first_texts rest_texts

  whole : StandAt all_texts 0 (first_texts ++ rest_texts)
  whole = subst (λ all. StandAt all 0 (first_texts ++ rest_texts)) (sym apart)
      (record { there = take_all (length (first_texts ++ rest_texts)) (first_texts ++ rest_texts) (omega arith); within = omega arith })

  pub first_stands : StandAt all_texts 0 first_texts
  first_stands = first_stand all_texts 0 first_texts rest_texts whole

  pub rest_stands : (s : ℕ) → s ≡ 0 + length first_texts → StandAt all_texts s rest_texts
  rest_stands s at = subst (λ q. StandAt all_texts q rest_texts) (sym at) (rest_stand all_texts 0 first_texts rest_texts whole)

  pub none_stands : (s : ℕ) → s ≤ length all_texts → StandAt all_texts s []
  none_stands s within = record { there = refl; within = omega (arith, within) }

  pub first_names : Ascend (listing_names ls) → Ascend (listing_names first)
  first_names up = earlier_ascend (listing_names first) (listing_names rest)
      (subst Ascend (ap listing_names parts ∙ map-append (λ (l : Listing). l.name.now) first rest) up)

-- nothing is merged yet
pub none_merged : (all : List Text) (m : Merge) → m.all.items ≡ [] → m.next ≡ 0 → IsMerged all [] m
none_merged all m none first = record {
  at = λ f. subst (λ vs. Merged all None (is_one_of (taken_keys m) f) f (vertex_at vs f)) (sym none)
      (subst (λ n. Merged all None (is_one_of (texts (take n m.keys.now)) f) f None) (sym first) refl);
}

pub none_before : (vs : List Vertex) (ts : List Text) → vs ≡ [] → Ascend ts → Ascend (vertex_names vs ++ ts)
none_before vs ts none up = subst (λ us. Ascend (vertex_names us ++ ts)) (sym none) up
