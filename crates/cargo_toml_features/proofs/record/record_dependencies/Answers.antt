-- One more entry of those that count.
use Rattle.cargo_toml_features.proofs.Cited.{Among, Ascend, Bool, Bor, Entry, IfOk-weaker, IsStrictlySortedBy, IsTrue, List, Listed, Option, ParseDependency, RecordedKey, Some, Text, [], and_from, ap, append-nil, arith, bytes_eq, bytes_eq-Decides, common_steps, cond, counting, counts_alone, counts_at, dependency_meaning, entries_at, entry_of, false, filter, filter-append, find, find-append, get_or, get_or-map}
use Rattle.cargo_toml_features.proofs.Cited.{is_mentioned, is_mentioned_in, is_optional, is_some, length, length-map, list_any, list_any_at, map, option_map, or-false, or-true, recorded_after, recorded_at, recorded_in, recorded_of, recorded_with, refl, rules, subst, sym, take, take_all, ℕ, ◌&&◌, ◌++◌, ◌<◌, ◌||◌, ◌∙◌, ◌∷◌, ◌≡◌}
use Rattle.cargo_toml_features.proofs.{GatheredKeys.flag_there, Placed.same_then, ByPlace.taken_more}
use Rattle.cargo_toml_features.proofs.record.record_dependencies.Goals as goal

abbrev at_key : Text → Entry → Bool
at_key k b = bytes_eq b.key k && is_optional b.dependency

shuffle : (m s x b e : Bool) → (m || (s || ((x || b) || e))) ≡ (m || (s || (b || (x || e))))
shuffle v0 v1 v2 v3 v4 = grind (arith, common_steps)

-- one more entry records its target after the others
with_next : (xs : List Entry) (e : Entry) → recorded_of (xs ++ e ∷ []) ≡ Some (recorded_with (recorded_of xs) e)
with_next v0 v1 = grind (arith, common_steps, find-append, find)

-- whether an entry of the key k is there after x has had its turn
hits : (k : Text) (x : Entry) (rest : List Entry) (c : Bool) → is_some (recorded_of (filter (λ e. bytes_eq e.key k) (cond c (x ∷ rest) rest))) ≡ ((bytes_eq x.key k && c) || is_some (recorded_of (filter (λ e. bytes_eq e.key k) rest)))
hits v0 v1 v2 v3 = grind (arith, common_steps)

none_optional : (k : Text) (es : List Entry) → list_any (λ b. is_optional b.dependency) es ≡ false → list_any (at_key k) es ≡ false
none_optional k [] off = refl
none_optional k (x ∷ es) off = grind (arith, common_steps, none_optional k es)

module _ (listed : Listed) where
  abbrev counts : List Entry → List Entry → Entry → Bool
  counts earlier es e = is_mentioned listed e.key || (at_key e.key e || (list_any (at_key e.key) earlier || list_any (at_key e.key) es))

  split_cond : (c : Bool) (x : Entry) (es es' tail : List Entry) → es' ≡ es ++ tail → cond c (x ∷ es') es' ≡ cond c (x ∷ es) es ++ tail
  split_cond v0 v1 v2 v3 v4 v5 = search rules

  counting_more : (earlier es : List Entry) (e : Entry) → counting listed earlier (es ++ e ∷ []) ≡ counting listed earlier es ++ cond (counts earlier es e) (e ∷ []) []
  counting_more earlier [] e = ap (λ t. cond (is_mentioned listed e.key || (at_key e.key e || t)) (e ∷ []) []) (sym (or-false _))
  counting_more earlier (x ∷ es) e = search (rules, split_cond, shuffle, counting_more (x ∷ earlier) es e)

  -- of a key that is not mentioned an entry counts exactly if some entry is optional
  counted : (k : Text) → is_mentioned listed k ≡ false → (earlier es : List Entry) → list_any (at_key k) earlier ≡ false
      → is_some (recorded_of (filter (λ e. bytes_eq e.key k) (counting listed earlier es))) ≡ list_any (at_key k) es
  counted k off earlier [] none = refl
  counted k off earlier (x ∷ es) none = grind (arith, common_steps, hits, bytes_eq-Decides, or-true, counted k off (x ∷ earlier) es)

  -- what is recorded of k once e is read
  recorded_more : (es : List Entry) (e : Entry) (k : Text) → recorded_of (entries_at listed (es ++ e ∷ []) k) ≡ recorded_after (is_mentioned listed) e k (recorded_of (entries_at listed es k))
  recorded_more es e k = grind (arith, common_steps, counting_more, filter-append, bytes_eq-Decides, or-true, counted, or-false, with_next, append-nil)

  -- where no entry counts by itself, none counts
  none_count : (mentioned : Text → Bool) → ((k : Text) → mentioned k ≡ is_mentioned listed k) → (earlier es : List Entry)
      → list_any (λ b. is_optional b.dependency) earlier ≡ false → list_any (counts_alone mentioned) es ≡ false → counting listed earlier es ≡ []
  none_count mentioned same earlier [] off none = refl
  none_count mentioned same earlier (x ∷ es) off none =
      let here : is_optional x.dependency ≡ false = grind arith in
      let all : list_any (λ b. is_optional b.dependency) (x ∷ earlier) ≡ false = grind (arith, here, off) in
      let early : list_any (at_key x.key) (x ∷ earlier) ≡ false = none_optional x.key (x ∷ earlier) all in
      let unnamed : is_mentioned listed x.key ≡ false = sym (same x.key) ∙ grind arith in
      let rest : counting listed (x ∷ earlier) es ≡ [] = none_count mentioned same (x ∷ earlier) es all (grind arith) in
      let unmet : (is_mentioned listed x.key || list_any (λ b. bytes_eq b.key x.key && is_optional b.dependency) (x ∷ earlier)) ≡ false = grind (arith, unnamed, early) in
      ap (λ b. cond b (x ∷ counting listed (x ∷ earlier) es) (counting listed (x ∷ earlier) es)) unmet ∙ rest

  -- the same of a map, where `mentioned` says which keys are
  recorded_then : (mentioned : Text → Bool) → ((k : Text) → mentioned k ≡ is_mentioned listed k) → (es : List Entry) (e : Entry) (k : Text) (before after : Option RecordedKey)
      → before ≡ recorded_of (entries_at listed es k) → after ≡ recorded_after mentioned e k before → after ≡ recorded_of (entries_at listed (es ++ e ∷ []) k)
  recorded_then v0 v1 v2 v3 v4 v5 v6 v7 v8 = search (rules, recorded_more)

counted_there : (mentioned : Text → Bool) (es : List ParseDependency) (i : ℕ) (p : ParseDependency) → i < length es → p ≡ get_or es i p →
    IsTrue (is_optional (dependency_meaning p.dep.now) || mentioned p.key.now) → IsTrue (list_any (counts_at mentioned p.key.now) (map entry_of es))
counted_there mentioned es i p below is counts =
    list_any_at (counts_at mentioned p.key.now) (map entry_of es) i (entry_of p) (subst (λ n. i < n) (sym (length-map es entry_of)) below)
    (ap (counts_at mentioned p.key.now) (get_or-map entry_of es i p (entry_of p) below ∙ ap entry_of (sym is)) ∙ and_from _ _ ((bytes_eq-Decides p.key.now p.key.now).1 refl) counts)

-- the flag that is read is that of the entry
flag_is : (mentioned : Text → Bool) (es : List ParseDependency) (i j : ℕ) (p : ParseDependency) (flags : List Bool) (b d : Bool) → j ≡ i → i < length es → p ≡ get_or es i p
    → flags ≡ map (counts_alone mentioned) (map entry_of es) → b ≡ get_or flags j d → b ≡ counts_alone mentioned (entry_of p)
flag_is mentioned es i j p flags b d same inside is are read = read ∙ ap (λ k. get_or flags k d) same ∙ flag_there mentioned es i p flags d inside is are

-- no name ascends
pub empty_slots-requires : goal.empty_slots-requires
unfolding IsStrictlySortedBy
empty_slots-requires c = subst (λ (ns : List (Bor Text)). Ascend (map (λ (n : Bor Text). n.now) ns)) (sym c.new.ensures.items) tt

pub record_entry-requires : goal.record_entry-requires
record_entry-requires c = record {
  named = λ counts.
      let key = c.entry-item.result.key.now in
      subst (λ ns. Among (map (λ (n : Bor Text). n.now) ns) key) (sym (c.loop-entry.invariant.same_names.names ∙ c.in_ok-dependencies.ensures.names))
      ((c.ascending-names.ensures.all key).1 ((c.in_ok-flags.ensures.keys key).1
      (counted_there (is_mentioned_in c.args.mentions.now) c.args.entries.now c.loop-entry.entry-index c.entry-item.result c.loop-entry-test.true c.entry-item.is
      (sym (flag_is (is_mentioned_in c.args.mentions.now) c.args.entries.now c.loop-entry.entry-index c.loop-entry.place c.entry-item.result c.in_ok-flags.field-0.flags.items c.index.result.now c.index.result.now
      c.loop-entry.invariant.place c.loop-entry-test.true c.entry-item.is c.in_ok-flags.ensures.flags c.index.ensures) ∙ counts))));
}

pub loop-entry-preserved : goal.loop-entry-preserved
loop-entry-preserved c =
    let es = c.args.entries.now in
    let i = c.loop-entry.entry-index in
    let p : ParseDependency = c.entry-item.result in
    record {
      recorded = λ listed same k.
          subst (λ xs. recorded_at c.record_entry.new.dependencies k ≡ recorded_of (entries_at listed xs k)) (sym (taken_more entry_of es i p p c.loop-entry-test.true c.entry-item.is))
          (recorded_then listed (is_mentioned_in c.args.mentions.now) same (map entry_of (take i es)) (entry_of p) k
          (recorded_at c.loop-entry.dependencies k) (recorded_at c.record_entry.new.dependencies k) (c.loop-entry.invariant.recorded listed same k) (c.in_ok-near.ensures.recorded (is_mentioned_in c.args.mentions.now)
          (flag_is (is_mentioned_in c.args.mentions.now) es i c.loop-entry.place p c.in_ok-flags.field-0.flags.items c.index.result.now c.index.result.now
          c.loop-entry.invariant.place c.loop-entry-test.true c.entry-item.is c.in_ok-flags.ensures.flags c.index.ensures) k));
      place = omega arith;
      same_names = same_then c.in_ok-dependencies.dependencies c.loop-entry.dependencies c.record_entry.new.dependencies c.loop-entry.invariant.same_names c.in_ok-near.ensures.same_names;
    }

pub returns-then-not-counts_any : goal.returns-then-not-counts_any
returns-then-not-counts_any c = record {
  recorded = IfOk-weaker c.empty_slots.result _ _ (λ s empty listed same k.
      let es = map entry_of c.args.entries.now in
      let none : list_any (counts_alone (is_mentioned_in c.args.mentions.now)) es ≡ false = search rules in
      ap (option_map recorded_in) (empty k) ∙ sym (ap (λ xs. recorded_of (filter (λ e. bytes_eq e.key k) xs)) (none_count listed (is_mentioned_in c.args.mentions.now) same [] es refl none)))
      c.empty_slots.ensures.empty;
}

pub returns : goal.returns
returns c = search (rules, take_all)
