-- What is told of each disk that answered so.
use Rattle.cargo_toml_audit.proofs.Cited.{Agrees, BTreeMap, Disk, Global, Listing, Looks, None, Nothing, Some, String, Tells, Text, There, UpdatesBy, [], ap, arith, below, btree_map_updates_text, bytes_eq-Decides, cond, disk_of, flat_map, get_by_text, map, nat_cmp, option_map_or, refl, slice_cmp, string_bytes, string_cmp, subfolders, suc, sym, unwrap_or, with_itself, zero, ℕ, ◌-◌, ◌∙◌, ◌≡◌, ◌≢◌}

-- ---- one more answer, of a path of which there was none
module _ {X : Type 0} (bs path : Text) (m n : BTreeMap (String Global) X) (w : X) (none : get_by_text m path ≡ None) (same : bs ≡ path)
    (updates : UpdatesBy string_cmp (λ k. slice_cmp nat_cmp bs (string_bytes k)) m n (Some w)) where
  now_at : get_by_text n path ≡ Some w
  now_at = btree_map_updates_text bs m n (Some w) updates path ∙ ap (λ b. cond b (Some w) (get_by_text m path)) ((bytes_eq-Decides bs path).1 same)

  still_at : (p : Text) (x : X) → get_by_text m p ≡ Some x → get_by_text n p ≡ Some x
  still_at p x at = grind (arith, btree_map_updates_text bs m n (Some w) updates p, bytes_eq-Decides bs p)

pub told_there : (old : Looks) (n : BTreeMap (String Global) There) (bs path : Text) (t : There) → get_by_text old.there path ≡ None → bs ≡ path
    → UpdatesBy string_cmp (λ k. slice_cmp nat_cmp bs (string_bytes k)) old.there n (Some t) → Tells (λ d. d.there path) old (record old { there = n }) t
told_there old n bs path t none same updates d h = (
  record { there = λ p x at. h.there p x (still_at bs path old.there n t none same updates p x at); names = h.names },
  sym (h.there path t (now_at bs path old.there n t none same updates)),
)

pub told_names : (old : Looks) (n : BTreeMap (String Global) Listing) (bs path : Text) (l : Listing) → get_by_text old.names path ≡ None → bs ≡ path
    → UpdatesBy string_cmp (λ k. slice_cmp nat_cmp bs (string_bytes k)) old.names n (Some l) → Tells (λ d. d.names path) old (record old { names = n }) (map string_bytes l.names.items)
told_names old n bs path l none same updates d h = (
  record { there = h.there; names = λ p x at. h.names p x (still_at bs path old.names n l none same updates p x at) },
  sym (h.names path l (now_at bs path old.names n l none same updates)),
)

-- the disk that has just what was answered
pub disk_agrees : (looks : Looks) → Agrees (disk_of looks) looks
disk_agrees looks = record {
  there = λ p t at. ap (λ o. unwrap_or o Nothing) at;
  names = λ p l at. ap (λ o. option_map_or (λ (x : Listing). map string_bytes x.names.items) o []) at;
}

-- one level of folders at least
pub below_more : (d : Disk) (n : ℕ) (folder : Text) → n ≢ 0 → below d n folder ≡ flat_map (with_itself (below d (n - 1))) (subfolders d folder)
below_more d zero folder h = absurd (h refl)
below_more d (suc n) folder h = ap (λ k. flat_map (with_itself (below d k)) (subfolders d folder)) (omega arith)
