use Rattle.cargo_toml_discovery.proofs.Cited.{BTreeSet, Bool, Bor, Global, List, Name, None, Option, Some, String, [], answer_at, answers_of, ap, bytes_eq, cond, false, get_by, is_at, is_eq-slice_cmp, is_some, lookup, map, nat_cmp, option_copied, option_map, refl, slice_cmp, string_bytes, sym, texts_in, true, ◌∙◌, ◌∷◌, ◌≡◌}
use Rattle.cargo_toml_discovery.specs.declared.listings.Listings as code

pub map-cond : {A B : Type 0} (f : A → B) (b : Bool) (x y : Option A) → option_map f (cond b x y) ≡ cond b (option_map f x) (option_map f y)
map-cond f true x y = refl
map-cond f false x y = refl

in_entries : (p : Name) (es : List (String Global × BTreeSet (String Global))) → answer_at (map (λ e. (string_bytes e.0, texts_in e.1)) es) p ≡ option_map texts_in (lookup (is_at (λ k. slice_cmp nat_cmp p (string_bytes k))) es)
in_entries p [] = refl
in_entries p (e ∷ es) =
    rw (is_eq-slice_cmp p (string_bytes e.0))
    (ap (λ (r : Option (List Name)). cond (bytes_eq p (string_bytes e.0)) (Some (texts_in e.1)) r) (in_entries p es) ∙ sym (map-cond texts_in (bytes_eq p (string_bytes e.0)) (Some e.1) _))

pub answer_at-get : (p : Name) (l : code.Listings) → answer_at (answers_of l) p ≡ option_map texts_in (get_by (λ k. slice_cmp nat_cmp p (string_bytes k)) l.names)
answer_at-get p l = in_entries p l.names.entries

pub answer_at-kept : (old new : code.Listings) (bs path : Name) (s : BTreeSet (String Global)) → bs ≡ path →
    ((p : Name) → get_by (λ k. slice_cmp nat_cmp p (string_bytes k)) new.names ≡ cond (bytes_eq bs p) (Some s) (get_by (λ k. slice_cmp nat_cmp p (string_bytes k)) old.names)) →
    (p : Name) → answer_at (answers_of new) p ≡ cond (bytes_eq path p) (Some (texts_in s)) (answer_at (answers_of old) p)
answer_at-kept old new bs path s same h p = answer_at-get p new ∙ ap (λ (r : Option (BTreeSet (String Global))). option_map texts_in r) (h p)
    ∙ map-cond texts_in (bytes_eq bs p) (Some s) _ ∙ ap (λ (r : Option (List Name)). cond (bytes_eq bs p) (Some (texts_in s)) r) (sym (answer_at-get p old)) ∙ ap (λ (t : Name). cond (bytes_eq t p) (Some (texts_in s)) (answer_at (answers_of old) p)) same

pub is_some-seen : (r : Option (Bor (BTreeSet (String Global)))) → is_some (option_map texts_in (option_copied r)) ≡ is_some r
is_some-seen None = refl
is_some-seen (Some s) = refl
