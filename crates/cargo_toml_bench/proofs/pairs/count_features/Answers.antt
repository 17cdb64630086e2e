use Rattle.cargo_toml_bench.proofs.Cited.{AllByRecursion, Asked, Bor, Error, Feature, Features, HashMap, IfSome, IsDistinct, IsFeatureCount, IsHidden, IsLeft, IsParsed, IsParsedBy, IsResolved, IsResolvedAfter, IsSome, IsUnique, List, MAX_ITEMS, Manifest, ManifestMeaning, None, Ok, Option, Outcome, Result, Some, Text, [], among-true, answer_of, ap, arith, bytes_eq}
use Rattle.cargo_toml_bench.proofs.Cited.{bytes_eq-Decides, false, false≢true, hash_map_len, held, inl, inr, is_among-true, is_some, is_some-lookup, length-map, list_any, lists_text, map, parsed_table, refl, resolution_of, subst, sym, texts_now, value_at, with_lent, ℕ, ◌||◌, ◌∙◌, ◌∷◌, ◌≡◌}
use Rattle.cargo_toml_bench.proofs.Asked.{parsed_at, tells_none}
use Rattle.cargo_toml.specs.Reach.{Among}
use Rattle.cargo_toml.specs.Reach.{IsOnce}
use Rattle.cargo_toml_bench.proofs.pairs.count_features.Goals as goal

-- What is resolved of a manifest that was lent is resolved of the manifest that is left.
module _ {M F S H : Type 0} (old new : Manifest M) (outcome : Outcome (ManifestMeaning M)) (g : Asked F) (filter : Option (Bor F)) (limit : ℕ) where
  -- what is told of an answer that may be there
  abbrev Told : Option (Result (Bor (Manifest M) × Features S H) Error) → Type 0
  Told answer = IfSome answer (IsResolvedAfter outcome limit g filter)

  told_of : (lent : Option (Bor (Manifest M))) (a : Features S H) → IsLeft old lent new → IsSome (with_lent lent (Some (Ok a)))
      → Told (with_lent lent (Some (Ok a))) → IsParsedBy limit (held new) g filter (answer_of a)
  told_of lent a left there told = grind arith

  parsed_of_left : filter ≡ None → limit ≡ MAX_ITEMS → (lent : Option (Bor (Manifest M))) (slot : Option (Result (Features S H) Error)) (a : Features S H)
      → IsLeft old lent new → slot ≡ Some (Ok a) → IsSome (with_lent lent slot) → Told (with_lent lent slot)
      → IsParsed MAX_ITEMS (held new) (λ _. false) (answer_of a)
  parsed_of_left unfiltered same lent slot a left is there told =
      let by : IsParsedBy limit (held new) g filter (answer_of a) =
      told_of lent a left (subst (λ s. IsSome (with_lent lent s)) is there) (subst (λ s. Told (with_lent lent s)) is told) in
      parsed_at (λ _. false) (answer_of a) same (held new) (by.told (λ _. false) (tells_none g filter (λ _. false) unfiltered (λ n. refl)))

-- How many features a map has: their names, each once.
listed_keys : (ks : List (Bor Text)) (f : Text) → lists_text (texts_now ks) f ≡ list_any (λ (k : Bor Text). bytes_eq f k.now) ks
listed_keys [] f = refl
listed_keys (k ∷ ks) f = ap (λ b. bytes_eq f k.now || b) (listed_keys ks f)

apart_all : (k : Bor Text) (ks : List (Bor Text)) → AllByRecursion (λ y. bytes_eq k.now y.now ≡ false) ks → ¬ Among (texts_now ks) k.now
apart_all k [] a i = i
apart_all k (y ∷ ks) a (inl s) = false≢true (sym a.0 ∙ (bytes_eq-Decides k.now y.now).1 s)
apart_all k (y ∷ ks) a (inr i) = apart_all k ks a.1 i

once_keys : (ks : List (Bor Text)) → IsDistinct (λ x y. bytes_eq x.now y.now) ks → IsOnce (texts_now ks)
unfolding IsDistinct
once_keys [] d = tt
once_keys (k ∷ ks) d = (apart_all k ks d.0, once_keys ks d.1)

module _ {S : Type 0} (m : HashMap (Bor Text) Feature S) where
  abbrev keys : List (Bor Text)
  keys = map (λ e. e.0) m.entries

  key_listed : (f : Text) → lists_text (texts_now keys) f ≡ is_some (value_at m f)
  key_listed f = listed_keys keys f ∙ sym (is_some-lookup (λ (k : Bor Text). bytes_eq f k.now) m.entries)

  key_once : IsUnique (λ x y. bytes_eq x.now y.now) m → IsOnce (texts_now keys)
  key_once u = once_keys keys u

module _ {S M : Type 0} (m : ManifestMeaning M) (features : HashMap (Bor Text) Feature S)
    (resolved : IsResolved (parsed_table MAX_ITEMS m) (IsHidden (parsed_table MAX_ITEMS m)) (resolution_of features)) where
  counted : (count : ℕ) → count ≡ hash_map_len features → IsUnique (λ x y. bytes_eq x.now y.now) features → IsFeatureCount m count
  counted count long unique = grind (arith, key_once, key_listed, among-true, is_among-true, length-map)

pub returns-in-Some-Ok-clause-counted : goal.returns-in-Some-Ok-clause-counted
returns-in-Some-Ok-clause-counted g c =
    let made = c.new-resolver.ensures in
    let resolver = c.new-resolver.result in
    let into = c.complete_and_parse_into in
    let resolved = c.in-Some-Ok.resolved in
    let member = into.follows.lender-at-none in
    let parsed : IsParsed MAX_ITEMS (held member) (λ _. false) (answer_of resolved) =
    parsed_of_left c.args.member.now member _ _ resolver.should_keep_hidden_feature
    resolver.max_items made.unfiltered made.limit into.result into.new.slot resolved
    into.follows.holds-at-none (c.in-Some-Ok.is ∙ ap Some c.in-Some-Ok.field-0-is)
    into.ensures.answered into.ensures.resolved in
    counted (held member) resolved.features parsed.kept.resolved c.len.result c.len.ensures.len
    c.len.ensures.unique
