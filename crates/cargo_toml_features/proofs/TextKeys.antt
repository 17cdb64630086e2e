-- Sets and maps of `&str`, by the bytes of their keys.
use Rattle.cargo_toml_features.proofs.Cited.{BTreeSet, Bool, Bor, Text, [], ap, bytes_eq, bytes_eq_sym, cond, false, is_eq-slice_cmp, nat_cmp, refl, set_has, slice_cmp, true, ◌||◌, ◌∙◌, ◌≡◌}
use Rattle.std.specs.BTreeSet as sorted

pub inserted : (bs : Text) (s n : BTreeSet (Bor Text)) → sorted.UpdatesBy (λ x y. slice_cmp nat_cmp x.now y.now) (λ k. slice_cmp nat_cmp bs k.now) s n true → (x : Text) → set_has n x ≡ (set_has s x || bytes_eq x bs)
inserted bs s n h x = h.0 (record { ref_ptr = (0, 0); now = x }) ∙ ap (λ t. cond t true (set_has s x)) (is_eq-slice_cmp bs x) ∙ go (bytes_eq bs x) (set_has s x) ∙ ap (λ t. set_has s x || t) (bytes_eq_sym bs x)
  where
    go : (a b : Bool) → cond a true b ≡ (b || a)
    go true true = refl
    go true false = refl
    go false true = refl
    go false false = refl

-- no text is in an empty set
pub none_in : (s : BTreeSet (Bor Text)) → s.keys ≡ [] → (x : Text) → set_has s x ≡ false
none_in s e x = rw e
