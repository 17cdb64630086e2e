-- Sets once `retain` has run through them.
use Rattle.cargo_toml_features.proofs.Cited.{BTreeSet, Bool, Bor, List, Text, [], ap, bytes_eq-Decides, cond, false, filter, is_at, is_eq-slice_cmp, list_any, nat_cmp, refl, set_has, slice_cmp, sym, true, ◌&&◌, ◌||◌, ◌∙◌, ◌∷◌, ◌≡◌}

-- a set of texts of which those are left that pass a test
pub has_filtered : (test : Text → Bool) (s n : BTreeSet (Bor Text)) → n.keys ≡ filter (λ k. test k.now) s.keys → (x : Text) → set_has n x ≡ (set_has s x && test x)
has_filtered test s n e x = ap (list_any here) e ∙ all s.keys
  where
    here : Bor Text → Bool
    here = is_at (λ k. slice_cmp nat_cmp x k.now)

    nothing : (a : Bool) → (a && false) ≡ false
    nothing true = refl
    nothing false = refl

    -- by whether k is x, and then by whether it passes
    one : (k : Bor Text) (ks : List (Bor Text)) → list_any here (filter (λ q. test q.now) ks) ≡ (list_any here ks && test x)
        → (b : Bool) → here k ≡ b → (t : Bool) → test k.now ≡ t → (here k || list_any here (filter (λ q. test q.now) ks)) ≡ (b || (list_any here ks && test x))
        → list_any here (cond t (k ∷ filter (λ q. test q.now) ks) (filter (λ q. test q.now) ks)) ≡ ((b || list_any here ks) && test x)
    one k ks later true i true j both = both ∙ sym (ap test ((bytes_eq-Decides x k.now).0 (sym (is_eq-slice_cmp x k.now) ∙ i)) ∙ j)
    one k ks later true i false j both =
        let off : test x ≡ false = ap test ((bytes_eq-Decides x k.now).0 (sym (is_eq-slice_cmp x k.now) ∙ i)) ∙ j in
        later ∙ ap (λ b. list_any here ks && b) off ∙ nothing _ ∙ sym off
    one k ks later false i true j both = both
    one k ks later false i false j both = later

    all : (ks : List (Bor Text)) → list_any here (filter (λ q. test q.now) ks) ≡ (list_any here ks && test x)
    all [] = refl
    all (k ∷ ks) =
        one k ks (all ks) (here k) refl (test k.now) refl (ap (λ l. here k || l) (all ks))
