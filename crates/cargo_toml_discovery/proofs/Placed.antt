-- Which products wait, which paths are taken, and what a walk gives, step by step.
use Rattle.cargo_toml_discovery.proofs.Cited.{BTreeSet, Bool, Bor, Edition, List, Name, None, Offered, Option, ProductMeaning, Some, String, [], ap, bytes_eq, cond, false, get_or, is_eq-slice_cmp, is_path_in, is_path_of, is_some, is_text, last_waiting, length, list_any-append, map, map_push, nat_cmp, option_copied}
use Rattle.cargo_toml_discovery.proofs.Cited.{option_map, option_or, or-false, or_comm, product_for, product_meaning, refl, slice_cmp, string_bytes, sym, take, take_more, true, waits_for, waits_or, walk, without, ℕ, ◌++◌, ◌+◌, ◌<◌, ◌||◌, ◌∙◌, ◌∷◌, ◌≡◌}
use Rattle.cargo_toml_discovery.proofs.Lookups.{map-cond}
use Rattle.std.proofs.Common.{Global}
use Rattle.std.specs.BTreeSet as sorted
use Rattle.cargo_toml_parts.specs.declared.product.Product as code

waits-last : (b : Bool) (p : ProductMeaning) (w : Option ProductMeaning) → cond b (Some p) w ≡ option_or (cond b (Some p) None) w
waits-last true p w = refl
waits-last false p w = refl

or-assoc : (a b c : Option ProductMeaning) → option_or (option_or a b) c ≡ option_or a (option_or b c)
or-assoc None b c = refl
or-assoc (Some x) b c = refl

pub last_waiting-push : (ps : List ProductMeaning) (p : ProductMeaning) (n : Name) → last_waiting (ps ++ p ∷ []) n ≡ waits_or p n (last_waiting ps n)
last_waiting-push [] p n = refl
last_waiting-push (q ∷ ps) p n =
    ap (λ (w : Option ProductMeaning). option_or w (waits_or q n None)) (last_waiting-push ps p n ∙ waits-last (waits_for n p) p (last_waiting ps n))
    ∙ or-assoc (cond (waits_for n p) (Some p) None) (last_waiting ps n) (waits_or q n None)
    ∙ sym (waits-last (waits_for n p) p (last_waiting (q ∷ ps) n))

pub last_waiting-more : (ps : List code.Product) (i : ℕ) (p : code.Product) (n : Name) → i < length ps → p ≡ get_or ps i p →
    last_waiting (map product_meaning (take (i + 1) ps)) n ≡ waits_or (product_meaning p) n (last_waiting (map product_meaning (take i ps)) n)
last_waiting-more ps i p n below read = rw (take_more ps i p below, ← read, map_push product_meaning (take i ps) p) (last_waiting-push (map product_meaning (take i ps)) (product_meaning p) n)

no_path : (o : Option (String Global)) → is_some o ≡ false → o ≡ None
no_path None h = refl
no_path (Some s) h = cc

-- what is lent
abbrev pub Lent : Type 0
Lent = Option (Bor code.Product)

abbrev pub shown : Lent → Option ProductMeaning
shown r = option_map (λ q. product_meaning q.now) r

pub waits-step : (r : Bor code.Product) (name : String Global) (bs n : Name) (old new : Lent) → is_some r.now.path ≡ false → r.now.name ≡ Some name → bs ≡ string_bytes name →
    new ≡ cond (bytes_eq bs n) (Some r) old → shown new ≡ waits_or (product_meaning r.now) n (shown old)
waits-step r name bs n old new path_is named same step =
    let waits : waits_for n (product_meaning r.now) ≡ bytes_eq bs n = rw (no_path r.now.path path_is, named, same) refl in
    rw (waits, step) (map-cond (λ q. product_meaning q.now) (bytes_eq bs n) (Some r) old)

-- a path more
cond_or : (a b : Bool) → cond a true b ≡ (a || b)
cond_or true b = refl
cond_or false b = refl

pub inserted : (bs : Name) (s n : BTreeSet (Bor Name)) → sorted.UpdatesBy (λ x y. slice_cmp nat_cmp x.now y.now) (λ k. slice_cmp nat_cmp bs k.now) s n true → (t : Name) → is_path_in n t ≡ (is_path_in s t || bytes_eq bs t)
inserted bs s n h t = h.0 (record { ref_ptr = (0, 0); now = t }) ∙ ap (λ b. cond b true (is_path_in s t)) (is_eq-slice_cmp bs t) ∙ cond_or (bytes_eq bs t) (is_path_in s t) ∙ or_comm (bytes_eq bs t) (is_path_in s t)

pub has_this : (path : Option (String Global)) (s : String Global) (bs t : Name) (b : Bool) → path ≡ Some s → bs ≡ string_bytes s → (b || bytes_eq bs t) ≡ (b || is_text t (option_map string_bytes path))
has_this path s bs t b is same = rw (is, same)

pub is_path_of-more : (ps : List code.Product) (i : ℕ) (p : code.Product) (t : Name) → i < length ps → p ≡ get_or ps i p →
    is_path_of (map product_meaning (take (i + 1) ps)) t ≡ (is_path_of (map product_meaning (take i ps)) t || is_text t (product_meaning p).path)
is_path_of-more ps i p t below read =
    rw (take_more ps i p below, ← read, map_push product_meaning (take i ps) p)
    (list_any-append (λ q. is_text t q.path) (map product_meaning (take i ps)) (product_meaning p ∷ []) ∙ ap (λ (b : Bool). is_path_of (map product_meaning (take i ps)) t || b) (or-false (is_text t (product_meaning p).path)))

module _ (edition : Edition) where
  without-same : (v w : Name → Option ProductMeaning) (m : Name) → ((n : Name) → v n ≡ w n) → (n : Name) → without v m n ≡ without w m n
  without-same v w m h n = ap (λ (x : Option ProductMeaning). cond (bytes_eq m n) None x) (h n)

  pub walk-same : (v w : Name → Option ProductMeaning) (os : List Offered) → ((n : Name) → v n ≡ w n) → walk edition v os ≡ walk edition w os
  walk-same v w [] h = refl
  walk-same v w (o ∷ os) h = ap (λ (x : Option ProductMeaning). product_for edition o x ∷ walk edition (without v o.name) os) (h o.name)
      ∙ ap (λ (qs : List ProductMeaning). product_for edition o (w o.name) ∷ qs) (walk-same (without v o.name) (without w o.name) os (without-same v w o.name h))

  pub walk-step : (w w' : Name → Option ProductMeaning) (o : Offered) (os : List Offered) (name : Name) (found : Option ProductMeaning) (p : ProductMeaning) → o.name ≡ name → found ≡ w name →
      p ≡ product_for edition o found → ((n : Name) → w' n ≡ without w name n) → walk edition w (o ∷ os) ≡ p ∷ walk edition w' os
  walk-step w w' o os name found p same finds made after =
      let there : product_for edition o (w o.name) ≡ p = ap (λ (n : Name). product_for edition o (w n)) same ∙ ap (λ (q : Option ProductMeaning). product_for edition o q) (sym finds) ∙ sym made in
      let rest : walk edition (without w o.name) os ≡ walk edition w' os = ap (λ (n : Name). walk edition (without w n) os) same ∙ walk-same (without w name) w' os (λ n. sym (after n)) in
      ap (λ (q : ProductMeaning). q ∷ walk edition (without w o.name) os) there ∙ ap (λ (qs : List ProductMeaning). p ∷ qs) rest

pub seen_twice : (r : Lent) → option_map product_meaning (option_copied r) ≡ shown r
seen_twice None = refl
seen_twice (Some q) = refl
