use Rattle.cargo_toml_check.proofs.Cited.{Bor, Json, JsonMembers, List, Text, [], ap, deref, flat_map, json_members, no_members, object, rest_all, rest_more, row_at, rules, sym, with_both, with_rows, ◌∙◌, ◌∷◌, ◌≡◌}
use Rattle.cargo_toml_check.proofs.features.all_of.Goals as goal

-- members that are put one after another
module _ {A : Type 0} (row : A → List (Text × Json)) where
  rows_more : (k : A) (left rest : List A) (old new whole : JsonMembers) → left ≡ k ∷ rest → new ≡ with_rows (row k) old → with_rows (flat_map row left) old ≡ whole
      → with_rows (flat_map row rest) new ≡ whole
  rows_more k left rest old new whole is puts before =
      ap (with_rows (flat_map row rest)) puts ∙ sym (with_both (row k) (flat_map row rest) old) ∙ ap (λ l. with_rows (flat_map row l) old) (sym is) ∙ before

  rows_all : (left : List A) (last whole : JsonMembers) → left ≡ [] → with_rows (flat_map row left) last ≡ whole → last ≡ whole
  rows_all left last whole none before = ap (λ l. with_rows (flat_map row l) last) (sym none) ∙ before

pub loop-name-preserved : goal.loop-name-preserved
loop-name-preserved g c =
    let is = rest_more deref _ _ _ c.in-Some.name c.in-Some.is c.next.ensures.steps in
    rows_more (λ (k : Bor Text). row_at g.X.ToJson.json c.args.found.now k.now) c.in-Some.name.now _ _ _ _ _ is c.in_ok-put_one.ensures c.loop-name.invariant

pub returns : goal.returns
returns g c =
    let walk = c.into_iter-name-iterator.ensures.into_iter_gives in
    let none = rest_all deref _ _ _ c.in-None.is c.next.ensures.steps in
    let row = λ (k : Bor Text). row_at g.X.ToJson.json c.args.found.now k.now in
    let start : json_members c.new-members.result.entries ≡ no_members = search rules in
    record {
      names = c.in_ok-names.names;
      exact = c.in_ok-names.ensures;
      members = c.from.ensures ∙ ap object (rows_all row _ _ _ none c.loop-name.invariant
          ∙ ap (λ (ks : List (Bor Text)). with_rows (flat_map row ks) (json_members c.new-members.result.entries)) walk.0
          ∙ ap (with_rows (flat_map row c.in_ok-names.names.keys)) start);
    }
