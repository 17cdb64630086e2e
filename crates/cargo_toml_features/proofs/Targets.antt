-- The targets of a dependency by the order of their keys: the first is the first target of the entries that were recorded.
use Rattle.cargo_toml_features.proofs.Cited.{AllByRecursion, BTreeMap, Bool, Bor, Dependency, DependencyMeaning, Entry, FeatureDependency, Greater, HasTarget, IsFirst, IsSome, IsTotalOrder, Kind, List, None, Option, Ordering, SameRecorded, Some, Target, TargetKey, Text, [], alike_right, ap, ap₂, arith, common_steps, cond, dependency_meaning, false, false_from_ne_true, false≢true}
use Rattle.cargo_toml_features.proofs.Cited.{find, first_target, fold, is_eq, is_gt, is_lt, is_some, length, lookup, on, on_total, option_copied, option_map, ordering_reverse, recorded_in, recorded_of, refl, same_Some, subst, sym, target_cmp, target_in, tied_itself, true, upto, ◌<◌, ◌∙◌, ◌∷◌, ◌≡◌}
use Rattle.std.proofs.Common.{Less}
use Rattle.std.proofs.Common.{Equal}
use Rattle.std.specs.BTreeMap as tree
use Rattle.cargo_toml_features.specs.contracts.features.TargetKeyOrd.TheImpl as key_order
use Rattle.cargo_toml_features.specs.contracts.features.TargetKeyOrd.TheImpl.Laws as laws

abbrev pub key_of : Target → TargetKey
key_of t = record { kind = t.0; target = option_map (λ s. record { ref_ptr = (0, 0); now = s }) t.1 }

targets_cmp : (k : Kind) (s t : Option (Bor Text)) → (key_order.cmp-value).it (record { kind = k; target = s }) (record { kind = k; target = t }) ≡ target_cmp (k, option_copied s) (k, option_copied t)
targets_cmp v0 v1 v2 = grind (arith, common_steps)

parts_cmp : (a b : Kind) (s t : Option (Bor Text)) → (key_order.cmp-value).it (record { kind = a; target = s }) (record { kind = b; target = t }) ≡ target_cmp (a, option_copied s) (b, option_copied t)
parts_cmp v0 v1 v2 v3 = grind (arith, common_steps, targets_cmp)

-- the derived order of keys is that of targets
pub cmp_is : (a b : TargetKey) → (key_order.cmp-value).it a b ≡ target_cmp (target_in a) (target_in b)
cmp_is a b = parts_cmp a.kind b.kind a.target b.target

pub target_of-key_of : (t : Target) → target_in (key_of t) ≡ t
target_of-key_of t = grind (arith, common_steps)

-- the look-up of a target is that of its key
pub by_key : {X : Type 0} (m : BTreeMap TargetKey X) (t : Target) → tree.get_by (λ k. target_cmp t (target_in k)) m ≡ tree.get (key_order.cmp-value).it m (key_of t)
by_key m t = ap (λ f. tree.get_by f m) (λ i k. (ap (λ x. target_cmp x (target_in k)) (sym (target_of-key_of t)) ∙ sym (cmp_is (key_of t) k)) i)

-- equal targets find the same
pub target_same : {X : Type 0} (key : TargetKey) (m : BTreeMap TargetKey X) (t : Target) → is_eq (target_cmp t (target_in key)) ≡ true
    → tree.get_by (λ k. target_cmp t (target_in k)) m ≡ tree.get (key_order.cmp-value).it m key
target_same key m t e = by_key m t ∙ ap (λ f. tree.get_by f m) (λ i k. laws.total-law.congr (key_of t) key k equal i)
  where
    only : (o : Ordering) → is_eq o ≡ true → o ≡ Equal
    only Less h = absurd (false≢true h)
    only Equal h = refl
    only Greater h = absurd (false≢true h)

    equal : (key_order.cmp-value).it (key_of t) key ≡ Equal
    equal = cmp_is (key_of t) key ∙ only _ (ap (λ x. is_eq (target_cmp x (target_in key))) (target_of-key_of t) ∙ e)

abbrev pub at : BTreeMap TargetKey (Bor Dependency) → Target → Option DependencyMeaning
at m t = option_map (λ x. dependency_meaning x.now) (tree.get_by (λ k. target_cmp t (target_in k)) m)

-- ---- the least of a list, of equal ones the first
module _ {K X : Type 0} {R : K → K → Ordering} (o : IsTotalOrder R) (g : X → K) where
  abbrev least : X → List X → X
  least e es = fold (λ a b. cond (is_lt (R (g b) (g a))) b a) e es

  abbrev Le : K → K → Type 0
  Le a b = is_gt (R a b) ≡ false

  abbrev hit : K → List X → Option X
  hit t xs = find (λ x. is_eq (R t (g x))) xs

  is_gt-reverse : (p : Ordering) → is_gt (ordering_reverse p) ≡ is_lt p
  is_gt-reverse v0 = grind arith

  -- the order turned round
  turned : (a b : K) → is_gt (R a b) ≡ is_lt (R b a)
  turned a b = ap is_gt (o.antisymm a b) ∙ is_gt-reverse (R b a)

  less-le : (p : Ordering) → is_lt p ≡ true → is_gt p ≡ false
  less-le v0 v1 = grind arith

  is_equal : (p : Ordering) → is_eq p ≡ true → p ≡ Equal
  is_equal v0 v1 = grind arith

  lower : (e : X) (es : List X) → AllByRecursion (λ z. Le (g (least e es)) (g z)) (e ∷ es)
  lower e [] = (ap is_gt (tied_itself o (g e)), tt)
  lower e (x ∷ es) = go (is_lt (R (g x) (g e))) refl (lower (cond (is_lt (R (g x) (g e))) x e) es)
    where
      go : (b : Bool) → is_lt (R (g x) (g e)) ≡ b → AllByRecursion (λ z. Le (g (least (cond b x e) es)) (g z)) (cond b x e ∷ es) → AllByRecursion (λ z. Le (g (least (cond b x e) es)) (g z)) (e ∷ x ∷ es)
      go true t h = (upto o (g (least x es)) (g x) (g e) h.0 (less-le _ t), (h.0, h.1))
      go false t h = (h.0, (upto o (g (least e es)) (g e) (g x) h.0 (turned (g e) (g x) ∙ t), h.1))

  -- the least is below whatever equals one of the list
  below_hit : (m t : K) (xs : List X) → AllByRecursion (λ z. Le m (g z)) xs → is_some (hit t xs) ≡ true → Le m t
  below_hit m t [] h s = absurd (false≢true s)
  below_hit m t (x ∷ xs) h s = grind (arith, alike_right, is_equal, below_hit m t xs h.1)

  neither : (p : Ordering) → is_gt p ≡ false → is_lt p ≡ false → is_eq p ≡ true
  neither v0 v1 v2 = grind arith

  -- the least is found by itself
  found : (e : X) (es : List X) → hit (g (least e es)) (e ∷ es) ≡ Some (least e es)
  found e [] = ap (λ p. cond (is_eq p) (Some e) None) (tied_itself o (g e))
  found e (x ∷ es) = go (is_lt (R (g x) (g e))) refl (found (cond (is_lt (R (g x) (g e))) x e) es) (lower (cond (is_lt (R (g x) (g e))) x e) es)
    where
      -- where x is the lesser, e is passed over
      passed : (m : X) → is_lt (R (g x) (g e)) ≡ true → Le (g m) (g x) → is_eq (R (g m) (g e)) ≡ false
      passed m t le = false_from_ne_true _ (λ i. false≢true (sym le ∙ turned (g m) (g x) ∙ ap is_lt (alike_right o (g m) (g e) (g x) (is_equal _ i)) ∙ t))

      -- where e is no greater and not the least, x is passed over
      passed_too : (m : X) → is_lt (R (g x) (g e)) ≡ false → Le (g m) (g e) → is_eq (R (g m) (g e)) ≡ false → is_eq (R (g m) (g x)) ≡ false
      passed_too m t le ne = false_from_ne_true _ (λ i. false≢true (sym ne ∙ neither _ le (ap is_lt (o.congr (g m) (g x) (g e) (is_equal _ i)) ∙ t)))

      skip : (m : X) → is_lt (R (g x) (g e)) ≡ false → Le (g m) (g e) → (b : Bool) → is_eq (R (g m) (g e)) ≡ b → cond b (Some e) (hit (g m) es) ≡ Some m → cond b (Some e) (cond (is_eq (R (g m) (g x))) (Some x) (hit (g m) es)) ≡ Some m
      skip m t le true i h = h
      skip m t le false i h = ap (λ b. cond b (Some x) (hit (g m) es)) (passed_too m t le i) ∙ h

      go : (b : Bool) → is_lt (R (g x) (g e)) ≡ b → hit (g (least (cond b x e) es)) (cond b x e ∷ es) ≡ Some (least (cond b x e) es)
          → AllByRecursion (λ z. Le (g (least (cond b x e) es)) (g z)) (cond b x e ∷ es) → hit (g (least (cond b x e) es)) (e ∷ x ∷ es) ≡ Some (least (cond b x e) es)
      go true t h l = ap (λ b. cond b (Some e) (hit (g (least x es)) (x ∷ es))) (passed (least x es) t l.0) ∙ h
      go false t h l = skip (least e es) t l.0 (is_eq (R (g (least e es)) (g e))) refl h

  -- two that are below each other are equal
  level : (a b : K) → Le a b → Le b a → is_eq (R a b) ≡ true
  level a b h k = neither (R a b) h (sym (turned b a) ∙ k)

-- ---- targets
target_total : IsTotalOrder target_cmp
target_total = subst IsTotalOrder same (on_total key_of laws.total-law)
  where
    same : on key_of (key_order.cmp-value).it ≡ target_cmp
    same i x y = (cmp_is (key_of x) (key_of y) ∙ ap₂ target_cmp (target_of-key_of x) (target_of-key_of y)) i

module _ (m : BTreeMap TargetKey (Bor Dependency)) where
  -- the least key holds what the entries say of their first target
  pub first_is : (key : TargetKey) (d : Bor Dependency) → tree.get (key_order.cmp-value).it m key ≡ Some d → tree.IsLowerBound (key_order.cmp-value).it m key
      → (e : Entry) (es : List Entry) → ((t : Target) → at m t ≡ option_map (λ x. x.dependency) (find (λ x. is_eq (target_cmp t x.target)) (e ∷ es)))
      → first_target (e ∷ es) ≡ Some (dependency_meaning d.now)
  first_is key d here bound e es recorded = sym told ∙ ap (option_map (λ x. dependency_meaning x.now)) (target_same key m (target_of_least) tied ∙ here)
    where
      min : Entry
      min = least target_total (λ (x : Entry). x.target) e es

      target_of_least : Target
      target_of_least = min.target

      some_of : {X Y : Type 0} (f : X → Y) (o : Option X) → is_some (option_map f o) ≡ is_some o
      some_of f None = refl
      some_of f (Some x) = refl

      -- the map has the least target
      told : at m target_of_least ≡ Some min.dependency
      told = recorded target_of_least ∙ ap (option_map (λ (x : Entry). x.dependency)) (found target_total (λ (x : Entry). x.target) e es)

      same_some : (o : Option (Bor Dependency)) (x : DependencyMeaning) → option_map (λ y. dependency_meaning y.now) o ≡ Some x → is_some o ≡ true
      same_some None x h = absurd (false≢true (ap is_some h))
      same_some (Some y) x h = refl

      present : is_some (tree.get (key_order.cmp-value).it m (key_of target_of_least)) ≡ true
      present = ap is_some (sym (by_key m target_of_least)) ∙ same_some _ _ told

      lower_key : is_gt (target_cmp (target_in key) target_of_least) ≡ false
      lower_key = ap is_gt (sym (cmp_is key (key_of target_of_least) ∙ ap (target_cmp (target_in key)) (target_of-key_of target_of_least))) ∙ bound (key_of target_of_least) present

      -- the entries have the map's first key
      own : is_eq (target_cmp (target_in key) (target_in key)) ≡ true
      own = ap is_eq (tied_itself target_total (target_in key))

      among_entries : is_some (find (λ x. is_eq (target_cmp (target_in key) x.target)) (e ∷ es)) ≡ true
      among_entries =
          sym (some_of (λ (x : Entry). x.dependency) (find (λ x. is_eq (target_cmp (target_in key) x.target)) (e ∷ es))) ∙ ap is_some (sym (recorded (target_in key)))
          ∙ ap (λ o. is_some (option_map (λ (x : Bor Dependency). dependency_meaning x.now) o)) (target_same key m (target_in key) own ∙ here)

      tied : is_eq (target_cmp target_of_least (target_in key)) ≡ true
      tied = level target_total (λ (x : Entry). x.target) target_of_least (target_in key)
          (below_hit target_total (λ (x : Entry). x.target) target_of_least (target_in key) (e ∷ es) (lower target_total (λ (x : Entry). x.target) e es) among_entries)
          lower_key

-- ---- what is recorded of a key
some_none : {X : Type 0} {x : X} → Some x ≡ None → ⊥
some_none e = cc

-- the least key holds the first target of whatever entries say the same
pub first_recorded : (d : FeatureDependency) (key : TargetKey) (w : Bor Dependency) → tree.get (key_order.cmp-value).it d.targets key ≡ Some w → tree.IsLowerBound (key_order.cmp-value).it d.targets key
    → (es : List Entry) → Some (recorded_in d) ≡ recorded_of es → Some (dependency_meaning w.now) ≡ first_target es
first_recorded d key w here bound [] r = absurd (some_none r)
first_recorded d key w here bound (e ∷ es) r = sym (first_is d.targets key w here bound e es (λ t. ap (λ x. x.targets t) (same_Some _ _ r)))

pub first_same : (d : FeatureDependency) (key : TargetKey) (w : Bor Dependency) → tree.get (key_order.cmp-value).it d.targets key ≡ Some w → tree.IsLowerBound (key_order.cmp-value).it d.targets key
    → (es : List Entry) → SameRecorded (Some (recorded_in d)) (recorded_of es) → Some (dependency_meaning w.now) ≡ first_target es
first_same v0 v1 v2 v3 v4 v5 v6 = grind (arith, first_is)

-- a key that is recorded has a target
pub some_recorded : (d : FeatureDependency) → d.targets.entries ≡ [] → (es : List Entry) → Some (recorded_in d) ≡ recorded_of es → None ≡ first_target es
some_recorded d empty [] r = refl
some_recorded d empty (e ∷ es) r = absurd (some_none (sym (sym nothing ∙ ap (λ x. x.targets e.target) (same_Some _ _ r) ∙ ap (λ b. option_map (λ (x : Entry). x.dependency) (cond b (Some e) (find (λ x. is_eq (target_cmp e.target x.target)) es))) (ap is_eq (tied_itself target_total e.target)))))
  where
    nothing : at d.targets e.target ≡ None
    nothing = ap (λ l. option_map (λ (x : Bor Dependency). dependency_meaning x.now) (lookup (tree.is_at (λ k. target_cmp e.target (target_in k))) l)) empty

-- ---- what a record tells of its first target
some_mapped : {X Y : Type 0} (f : X → Y) (o : Option X) → IsSome (option_map f o) → is_some o ≡ true
some_mapped v0 v1 v2 = grind arith

-- the least key holds the record's first dependency
pub is_first : (d : FeatureDependency) (key : TargetKey) (w : Bor Dependency) → tree.get (key_order.cmp-value).it d.targets key ≡ Some w → tree.IsLowerBound (key_order.cmp-value).it d.targets key
    → IsFirst (recorded_in d) (target_in key) (dependency_meaning w.now)
is_first d key w here bound = record {
  here = ap (option_map (λ x. dependency_meaning x.now)) (target_same key d.targets (target_in key) (ap is_eq (tied_itself target_total (target_in key))) ∙ here);
  least = λ q some.
      let there : is_some (tree.get (key_order.cmp-value).it d.targets (key_of q)) ≡ true = ap is_some (sym (by_key d.targets q)) ∙ some_mapped (λ (x : Bor Dependency). dependency_meaning x.now) _ some in
      sym (turned target_total (λ (t : Target). t) (target_in key) q)
      ∙ ap is_gt (sym (cmp_is key (key_of q) ∙ ap (target_cmp (target_in key)) (target_of-key_of q))) ∙ bound (key_of q) there;
}

-- what says the same as some entries has a target
pub has_target : (d : FeatureDependency) (es : List Entry) → SameRecorded (Some (recorded_in d)) (recorded_of es) → HasTarget d
has_target d [] r = absurd r
has_target d (e ∷ es) r = go d.targets.entries refl
  where
    there : at d.targets e.target ≡ Some e.dependency
    there = r.1 e.target ∙ ap (λ b. option_map (λ (x : Entry). x.dependency) (cond b (Some e) (find (λ x. is_eq (target_cmp e.target x.target)) es))) (ap is_eq (tied_itself target_total e.target))

    go : (xs : List (TargetKey × Bor Dependency)) → d.targets.entries ≡ xs → 0 < length d.targets.entries
    go [] s = absurd (some_none (sym there ∙ ap (λ l. option_map (λ (x : Bor Dependency). dependency_meaning x.now) (lookup (tree.is_at (λ k. target_cmp e.target (target_in k))) l)) s))
    go (x ∷ xs) s = subst (λ l. 0 < length l) (sym s) (omega arith)
