-- What hiding leaves; and with few mentions of removed features, no binary is lost on its way to a kept one.
use Rattle.std.proofs.Common.{◌≤◌, Bool, true, List, IsTrue, count_by, is_some, le_trans}
use Rattle.cargo_toml_graph.specs.{Action.Text, Admitted.Listed, Bins.IsComplete}
use Rattle.cargo_toml_graph.proofs.InByteOrder.{ascending_once, passed_complete}
use Rattle.cargo_toml_features.specs.{Marks.NamedDetails, Recorded.Entry, Resolved.Answer, Resolved.IsAnswer, Resolved.IsAnswerWithout, Resolved.table_of}
use Rattle.cargo_toml_features.specs.OwnBins.{own_of}
use Rattle.cargo_toml_resolve.proofs.{ByFilter.answer_alike, AgainstAll.none_left, AgainstAll.keeps_enabling, AgainstAll.loses_nothing}
use Rattle.cargo_toml_resolver.{specs.Parsed.IsHiding, proofs.Mentions.mentions_counted}

module _ (listed : Listed) (entries : List Entry) (details : NamedDetails) (required : List (Text × Text)) (R : Text → Type 0) (a : Answer)
    (there : (r : Text) → R r → IsTrue ((table_of listed entries).has r)) (h : IsAnswerWithout listed entries details (own_of required) R a) where
  -- what something stands for
  abbrev removed : Text → Bool
  removed r = is_some (a.redirects r)

  by_redirects : IsAnswerWithout listed entries details (own_of required) (λ r. IsTrue (removed r)) a
  by_redirects = answer_alike listed entries details (own_of required) R (λ r. IsTrue (removed r)) a (λ r. (h.redirected r).1) (λ r. (h.redirected r).0) h

  pub complete_bins : count_by (λ q. removed q.0) required ≤ 10 → (f : Text) → IsTrue (a.resolution.table.has f) →
      IsComplete (table_of listed entries) (λ r. IsTrue (removed r)) (own_of required) f (a.bins f)
  complete_bins few f left =
      let p = by_redirects.passed_on in
      let once = ascending_once p.order p.in_order.ascending in
      passed_complete (table_of listed entries) (λ r. IsTrue (removed r)) (own_of required) (λ r y. there r ((h.redirected r).0 y)) a.bins p f ((by_redirects.kept.resolved.kept f).0 left)
      (le_trans (mentions_counted removed required p.order once (λ r i. (p.in_order.members r).0 i)) few)

-- what hiding leaves, by itself and beside each full answer
pub hides : (listed : Listed) (entries : List Entry) (details : NamedDetails) (own : Text → List Text) (R : Text → Type 0) (a : Answer)
    → IsAnswerWithout listed entries details own R a → IsHiding (IsAnswer listed entries details own (λ _. true)) a
hides listed entries details own R a h = record {
  no_removed_name = none_left listed entries details own R a h;
  closure = λ full all. keeps_enabling listed entries details own R a h details own full all;
  nothing_lost = λ full all. loses_nothing listed entries details own R a h details own full all;
}
