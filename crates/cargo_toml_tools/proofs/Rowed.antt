-- The rows of the features that are told of, with the names that are left.
use Rattle.cargo_toml_tools.proofs.Cited.{[], ◌++◌, ◌↔◌, ◌∙◌, ◌∷◌, ◌≡◌, AllByRecursion, Among, ap, append-nil, AreRows, arith, Ascend, Bool, Bor, Feature, filter, filter_next, filter_past, HashMap, IfSome, is_some, IsRowOf, IsTrue, List, map, map-append, None, Row, Some, subst, sym, Table, table_in, Text, those_among, those_ascend, told_at, value_at}

module _ {S : Type 0} (t : Table) (m : HashMap (Bor Text) Feature S) (has_default : Bool) where
  abbrev told : Text → Bool
  told f = is_some (told_at m has_default f)

  abbrev names_of_rows : List Row → List Text
  names_of_rows rows = map (λ r. r.name.now) rows

  abbrev Tells : Row → Type 0
  Tells r = IfSome (told_at m has_default r.name.now) (IsRowOf t m r)

  pub record Rowed (all left : List Text) (rows : List Row) : Type 0 where
    pub names : names_of_rows rows ++ filter told left ≡ filter told all
    pub each : AllByRecursion Tells rows

  all_push : (rows : List Row) (r : Row) → AllByRecursion Tells rows → Tells r
      → AllByRecursion Tells (rows ++ r ∷ [])
  all_push [] r a t = (t, tt)
  all_push (q ∷ rows) r a t = (a.0, all_push rows r a.1 t)

  module _ (all : List Text) (k : Text) (left rest : List Text) (is : left ≡ k ∷ rest) where
    -- a feature that is told of
    pub rowed_one : (r : Row) (v : Feature) (rows more : List Row) → more ≡ rows ++ r ∷ []
        → r.name.now ≡ k → told_at m has_default k ≡ Some v → IsRowOf t m r v
        → Rowed all left rows → Rowed all rest more
    rowed_one r v rows more pushed named at tells h = record {
      names =
          ap (λ ts. ts ++ filter told rest) (ap names_of_rows pushed ∙ map-append (λ (q : Row). q.name.now) rows (r ∷ [])
          ∙ ap (λ t. names_of_rows rows ++ t ∷ []) named) ∙ filter_next told (names_of_rows rows) k left rest _ is h.names (ap is_some at);
      each =
          subst (λ rs. AllByRecursion Tells rs) (sym pushed) (all_push rows r h.each
          (subst (λ o. IfSome o (IsRowOf t m r)) (sym (ap (told_at m has_default) named ∙ at)) tells));
    }

    -- one that isn't
    pub rowed_none : (rows : List Row) → told_at m has_default k ≡ None → Rowed all left rows
        → Rowed all rest rows
    rowed_none rows at h = record {
      names = filter_past told (names_of_rows rows) k left rest _ is h.names (ap is_some at);
      each = h.each;
    }

  -- what is told of is there
  has_told : (x : Text) → IsTrue (told x) → IsTrue ((table_in m).has x)
  has_told x h = grind arith

  pub is_there : (x : Text) (v : Feature) → told_at m has_default x ≡ Some v → value_at m x ≡ Some v
  is_there x v at = grind arith

  pub rowed_all : (names left : List Text) (rows : List Row) → left ≡ [] → Ascend names
      → ((x : Text) → IsTrue ((table_in m).has x) ↔ Among names x) → Rowed names left rows
      → AreRows t m has_default rows
  rowed_all names left rows none up are h =
      let same : names_of_rows rows ≡ filter told names =
      sym (append-nil (names_of_rows rows))
      ∙ ap (λ ks. names_of_rows rows ++ filter told ks) (sym none) ∙ h.names in
      record {
        names = λ x. let by = those_among told names _ same x in (λ i. (by.0 i).1, λ u. by.1 ((are x).0 (has_told x u), u));
        in_order = those_ascend told names _ same up;
        each = h.each;
      }
