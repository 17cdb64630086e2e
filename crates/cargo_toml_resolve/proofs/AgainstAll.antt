-- An answer beside one of a filter that keeps every name, beside another by its own filter, and beside what holds the same.
use Rattle.cargo_toml_resolve.proofs.Cited.{AgreesWithAll, Answer, Asked, Bool, Bor, Entry, IsAnswer, IsAnswerBy, IsAnswerWithout, IsFalse, IsRemovedBy, IsResolved, IsSome, IsTrue, KeepsEnabling, List, Listed, LosesNothing, NamedDetails, NoneIsLeft, Option, Resolution, SameKept, Table, Text, arith, codes, is_removed, is_some, nat_eq, not, resolved_alike, settled, starts_with, table_of, true, ◌&&◌, ◌≡◌}
use Rattle.cargo_toml_resolve.proofs.ByFilter.{answer_alike}
use Rattle.cargo_toml_graph.proofs.AgainstAll as graph
use Rattle.cargo_toml_graph.proofs.Closure as closure

-- where every name is kept, none is removed
none_removed : (t : Table) (v : Text) → IsFalse (is_removed t (λ _. true) v)
none_removed t v = grind arith

module _ (listed : Listed) (entries : List Entry) where
  abbrev t : Table
  t = table_of listed entries

  module _ (details : NamedDetails) (own : Text → List Text) (R : Text → Type 0) (a : Answer) (h : IsAnswerWithout listed entries details own R a) where
    -- something stands for exactly the removed ones
    resolved : IsResolved t (λ r. IsTrue (is_some (a.redirects r))) a.resolution
    resolved = resolved_alike t R (λ r. IsTrue (is_some (a.redirects r))) (λ r. (h.redirected r).1) (λ r. (h.redirected r).0) a.resolution h.kept.resolved

    pub none_left : NoneIsLeft (λ r. IsSome (a.redirects r)) a.resolution
    none_left = closure.none_left t (λ r. is_some (a.redirects r)) a.resolution resolved

    module _ (others : NamedDetails) (mentioned : Text → List Text) (full : Answer) (all : IsAnswer listed entries others mentioned (λ _. true) full) where
      pub keeps_enabling : KeepsEnabling full.resolution a.resolution
      keeps_enabling = graph.keeps_enabling t (λ r. is_some (a.redirects r)) (is_removed t (λ _. true)) full.resolution a.resolution (none_removed t) all.kept.resolved resolved

      pub loses_nothing : LosesNothing full.resolution a.resolution
      loses_nothing = graph.loses_nothing t (λ r. is_some (a.redirects r)) (is_removed t (λ _. true)) full.resolution a.resolution (none_removed t) all.kept.resolved resolved

  module _ {F : Type 0} (g : Asked F) (filter : Option (Bor F)) (b : Answer) (details : NamedDetails) (own : Text → List Text) (h : IsAnswerBy g filter listed entries details own b) where
    -- the test that keeps what nothing stands for
    abbrev keep : Text → Bool
    keep r = not (is_some (b.redirects r))

    first : (x y z : Bool) → (x && y && not (not z)) ≡ true → z ≡ true
    first x y z e = grind arith

    all : (x y z : Bool) → x ≡ true → y ≡ true → z ≡ true → (x && y && not (not z)) ≡ true
    all x y z e e' e'' = grind arith

    into : (r : Text) → IsRemovedBy g filter t r → IsTrue (is_removed t keep r)
    into r gone = all (t.has r) (starts_with nat_eq r (codes "_")) (is_some (b.redirects r)) gone.there gone.hidden ((h.answer.redirected r).1 gone)

    back : (r : Text) → IsTrue (is_removed t keep r) → IsRemovedBy g filter t r
    back r y = (h.answer.redirected r).0 (first (t.has r) (starts_with nat_eq r (codes "_")) (is_some (b.redirects r)) y)

    tested : (others : NamedDetails) (mentioned : Text → List Text) (a : Answer) → IsAnswerBy g filter listed entries others mentioned a → IsAnswer listed entries others mentioned keep a
    tested others mentioned a k = answer_alike listed entries others mentioned (IsRemovedBy g filter t) (λ r. IsTrue (is_removed t keep r)) a into back k.answer

    pub agrees : AgreesWithAll g filter listed entries b
    agrees = record {
      by_filter = λ others mentioned a k. settled listed entries others details mentioned own keep a b (tested others mentioned a k) (tested details own b h);
      by_test = λ test others mentioned a tells k. settled listed entries others details mentioned own test a b k (h.told test tells);
    }

pub resolved_same : (t : Table) (R : Text → Type 0) (m n : Resolution) → SameKept m n → IsResolved t R m → IsResolved t R n
resolved_same t R m n s h = grind arith
