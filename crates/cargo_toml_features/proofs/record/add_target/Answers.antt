-- The targets of a dependency once one more entry is recorded.
use Rattle.cargo_toml_features.proofs.Cited.{BTreeMap, Bool, Bor, Dependency, List, None, Option, Ordering, ParseDependency, Some, Target, TargetKey, Text, ap, ap₂, arith, common_steps, cond, dependency_meaning, entry_of, false, is_eq, lookup, option_map, option_or, ordering_reverse, recorded_next, refl, rules, sym, target_cmp, target_in, true, unwrap_or, ◌∙◌, ◌≡◌}
use Rattle.cargo_toml_features.proofs.Targets.{at, cmp_is, key_of, target_of-key_of, target_same}
use Rattle.std.specs.BTreeMap as tree
use Rattle.cargo_toml_features.specs.contracts.features.TargetKeyOrd.TheImpl as key_order
use Rattle.cargo_toml_features.specs.contracts.features.TargetKeyOrd.TheImpl.Laws as laws
use Rattle.cargo_toml_features.proofs.record.add_target.Goals as goal

is_eq-reverse : (o : Ordering) → is_eq (ordering_reverse o) ≡ is_eq o
is_eq-reverse v0 = search rules

-- the key has w, which is what it had or else the entry's dependency; the new map is told by its entries
module _ (name : Text) (key : TargetKey) (p : ParseDependency) (w : Bor Dependency) (m : BTreeMap TargetKey (Bor Dependency)) (new : List (TargetKey × Bor Dependency))
    (put : (k : TargetKey) → lookup (tree.is_at ((key_order.cmp-value).it k)) new ≡ cond (is_eq ((key_order.cmp-value).it key k)) (Some w) (tree.get (key_order.cmp-value).it m k))
    (is : w ≡ unwrap_or (tree.get (key_order.cmp-value).it m key) p.dep) where
  -- what a map has at a target
  abbrev before : Target → Option (Bor Dependency)
  before t = tree.get_by (λ k. target_cmp t (target_in k)) m

  keyed : (t : Target) → (λ k. target_cmp t (target_in k)) ≡ (key_order.cmp-value).it (key_of t)
  keyed t = λ i k. (ap (λ x. target_cmp x (target_in k)) (sym (target_of-key_of t)) ∙ sym (cmp_is (key_of t) k)) i

  same_test : (t : Target) → is_eq ((key_order.cmp-value).it key (key_of t)) ≡ is_eq (target_cmp t (target_in key))
  same_test t =
      ap is_eq (laws.total-law.antisymm key (key_of t)) ∙ is_eq-reverse _
      ∙ ap is_eq (cmp_is (key_of t) key ∙ ap (λ x. target_cmp x (target_in key)) (target_of-key_of t))

  now : (t : Target) → lookup (tree.is_at (λ k. target_cmp t (target_in k))) new ≡ cond (is_eq (target_cmp t (target_in key))) (Some w) (before t)
  now t =
      ap (λ f. lookup (tree.is_at f) new) (keyed t) ∙ put (key_of t)
      ∙ ap₂ (λ b o. cond b (Some w) o) (same_test t) (ap (λ f. tree.get_by f m) (sym (keyed t)))

  stays : (o : Option (Bor Dependency)) → w ≡ unwrap_or o p.dep → Some (dependency_meaning w.now) ≡ option_or (option_map (λ x. dependency_meaning x.now) o) (Some (dependency_meaning p.dep.now))
  stays None e = ap (λ x. Some (dependency_meaning x.now)) e
  stays (Some x) e = ap (λ x. Some (dependency_meaning x.now)) e

  told : (b : Bool) (o : Option (Bor Dependency)) → (b ≡ true → o ≡ tree.get (key_order.cmp-value).it m key) →
      option_map (λ x. dependency_meaning x.now) (cond b (Some w) o) ≡ option_or (option_map (λ x. dependency_meaning x.now) o) (cond b (Some (dependency_meaning p.dep.now)) None)
  told true o same = stays o (is ∙ ap (λ q. unwrap_or q p.dep) (sym (same refl)))
  told false None same = refl
  told false (Some x) same = refl

  target_put : target_in key ≡ (entry_of p).target
      → record { crate_name = name; targets = λ t. option_map (λ x. dependency_meaning x.now) (lookup (tree.is_at (λ k. target_cmp t (target_in k))) new) } ≡ recorded_next (record { crate_name = name; targets = at m }) (entry_of p)
  target_put same = λ i. record {
    crate_name = name;
    targets = λ t. (ap (option_map (λ x. dependency_meaning x.now)) (now t) ∙ told (is_eq (target_cmp t (target_in key))) (before t) (target_same key m t)
        ∙ ap (λ k. option_or (at m t) (cond (is_eq (target_cmp t k)) (Some (dependency_meaning p.dep.now)) None)) same) i;
  }

pub returns : goal.returns
returns c =
    let e = c.args.entry.now in
    let old = c.args.dependency.now in
    target_put old.crate_name.now c.target_key-target.result e c.or_insert.result.now old.targets _ (λ k. grind (arith, common_steps))
    (c.or_insert.ensures.value ∙ ap (λ o. unwrap_or o e.dep) c.in_ok-dependency.ensures.value) c.target_key-target.ensures
