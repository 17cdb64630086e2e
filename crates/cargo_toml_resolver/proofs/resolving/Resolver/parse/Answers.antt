use Rattle.std.proofs.Common.{◌≡◌, ℕ, List, Bor, Option, map, sym, ap, ap₂, subst, ◌∙◌}
use Rattle.cargo_toml_graph.specs.{Action.Text, Admitted.Listed, Admitted.admitted}
use Rattle.cargo_toml_manifest.specs.Manifests.{ManifestMeaning, manifest_meaning}
use Rattle.cargo_toml_features.specs.{Entries.entries_of, Views.listed_of, Views.answer_of, Views.entry_of, Marks.NamedDetails, Marks.details_listed, Marks.named_details, Recorded.Entry}
use Rattle.cargo_toml_features.specs.{Resolved.Answer, OwnBins.own_of, OwnBins.bin_requirement}
use Rattle.cargo_toml_resolver.specs.{Filtered.filter_of, Filtered.limit_of, Parsed.IsParsedBy, Parsed.parsed_entries, Parsed.parsed_table, Parsed.requirements}
use Rattle.cargo_toml_resolve.specs.{Filter.Asked, Removed.IsAnswerBy, Removed.IsRemovedBy}
use Rattle.cargo_toml_resolve.proofs.ByFilter.{answer_by_listed}
use Rattle.cargo_toml_resolver.proofs.Hiding.{complete_bins, hides}
use Rattle.cargo_toml_resolver.proofs.resolving.Resolver.parse.Goals as goal

-- the answer for what stands in a manifest is the answer for the manifest
module _ {M F : Type 0} (limit : ℕ) (m : ManifestMeaning M) (g : Asked F) (filter : Option (Bor F)) (a : Answer) where
  parsed_from : (fs : Listed) (es : List Entry) (ds : NamedDetails) (rs : List (Text × Text)) →
      fs ≡ admitted limit m.features → es ≡ parsed_entries limit m →
      ds ≡ details_listed fs m.feature_details → rs ≡ requirements m →
      IsAnswerBy g filter fs es ds (own_of rs) a → IsParsedBy limit m g filter a
  parsed_from fs es ds rs listed entries told required is =
      subst (λ xs. IsAnswerBy g filter xs (parsed_entries limit m) m.feature_details (own_of (requirements m)) a) listed
      (answer_by_listed fs (parsed_entries limit m) m.feature_details (own_of (requirements m)) g filter a
      (subst (λ xs. IsAnswerBy g filter fs xs (details_listed fs m.feature_details) (own_of (requirements m)) a) entries
      (subst (λ xs. IsAnswerBy g filter fs es xs (own_of (requirements m)) a) told
      (subst (λ xs. IsAnswerBy g filter fs es ds (own_of xs) a) required is))))

pub returns-clause-resolved : goal.returns-clause-resolved
returns-clause-resolved g c =
    let limit = limit_of c.args.self.now in
    let m = manifest_meaning (λ m. m) c.args.manifest.now in
    let listed : listed_of c.as_slice.result.now ≡ admitted limit m.features =
    ap listed_of c.as_slice.ensures.value ∙ c.in_ok-listings.ensures.all in
    let entries : map entry_of c.as_slice-2.result.now ≡ parsed_entries limit m =
    ap (map entry_of) c.as_slice-2.ensures.value ∙ c.in_ok-entries.ensures
    ∙ ap₂ (entries_of limit) c.tables_of.ensures.own c.tables_of.ensures.targets in
    let told : named_details c.as_slice.result.now ≡ details_listed (listed_of c.as_slice.result.now) m.feature_details =
    subst (λ ls. named_details ls ≡ details_listed (listed_of ls) m.feature_details) (sym c.as_slice.ensures.value) c.in_ok-listings.ensures.details in
    let required : map bin_requirement c.as_slice-3.result.now ≡ requirements m =
    ap (map bin_requirement) c.as_slice-3.ensures.value ∙ c.in_ok-requirements.ensures in
    parsed_from limit m g.F.Fn (filter_of c.args.self.now) (answer_of c.in_ok-resolve.field-0) (listed_of c.as_slice.result.now)
    (map entry_of c.as_slice-2.result.now) (named_details c.as_slice.result.now) (map bin_requirement c.as_slice-3.result.now)
    listed entries told required c.in_ok-resolve.ensures.resolved

pub returns-clause-hiding : goal.returns-clause-hiding
returns-clause-hiding g c =
    let limit = limit_of c.args.self.now in
    let m = manifest_meaning (λ m. m) c.args.manifest.now in
    hides (admitted limit m.features) (parsed_entries limit m) m.feature_details (own_of (requirements m))
    (IsRemovedBy g.F.Fn (filter_of c.args.self.now) (parsed_table limit m)) (answer_of c.in_ok-resolve.field-0) (returns-clause-resolved g c).answer

pub returns-clause-complete_bins : goal.returns-clause-complete_bins
returns-clause-complete_bins g c =
    let limit = limit_of c.args.self.now in
    let m = manifest_meaning (λ m. m) c.args.manifest.now in
    complete_bins (admitted limit m.features) (parsed_entries limit m) m.feature_details (requirements m)
    (IsRemovedBy g.F.Fn (filter_of c.args.self.now) (parsed_table limit m)) (answer_of c.in_ok-resolve.field-0) (λ r gone. gone.there)
    (returns-clause-resolved g c).answer
