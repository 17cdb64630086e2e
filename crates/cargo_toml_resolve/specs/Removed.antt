-- Features that the filter refuses, and what is answered without them.
use Rattle.std.specs.Prelude.{Bool, true, false, IsTrue, List, Option}
use Rattle.std.specs.Borrow.{Bor}
use Rattle.cargo_toml_graph.specs.{Action.Text, Admitted.Listed, Graph.Table}
use Rattle.cargo_toml_features.specs.{Agreement.Agree, Marks.NamedDetails, Recorded.Entry}
use Rattle.cargo_toml_features.specs.Resolved.{Answer, IsAnswer, IsAnswerWithout, table_of}
use Rattle.cargo_toml_resolve.specs.Filter.{Asked, Answers, IsHiddenName, FilterTells}

module _ {F : Type 0} (g : Asked F) (filter : Option (Bor F)) where
  -- r is a feature whose name begins with `_`, and there is no filter or it answers false of r
  pub record IsRemovedBy (t : Table) (r : Text) : Type 0 where
    pub there : IsTrue (t.has r)
    pub hidden : IsHiddenName r
    pub refused : Answers g filter r false

  module _ (listed : Listed) (entries : List Entry) where
    -- the answer by the filter: its removed features are taken out, it keeps each that is left and
    -- begins with `_`, and each test that agrees with it tells the same
    pub record IsAnswerBy (details : NamedDetails) (own : Text → List Text)
        (a : Answer) : Type 0 where
      pub answer : IsAnswerWithout listed entries details own
          (IsRemovedBy (table_of listed entries)) a
      pub kept : (f : Text) → IsTrue (a.resolution.table.has f) → IsHiddenName f
          → Answers g filter f true
      pub told : (keep : Text → Bool) → FilterTells g filter keep
          → IsAnswer listed entries details own keep a

    -- b agrees with each answer by the filter, and with each by a test that agrees with the filter
    pub record AgreesWithAll (b : Answer) : Type 0 where
      pub by_filter : (details : NamedDetails) (own : Text → List Text) (a : Answer)
          → IsAnswerBy details own a → Agree a b
      pub by_test : (keep : Text → Bool) (details : NamedDetails) (own : Text → List Text)
          (a : Answer) → FilterTells g filter keep
          → IsAnswer listed entries details own keep a → Agree a b
