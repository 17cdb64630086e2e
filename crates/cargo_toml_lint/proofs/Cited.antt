-- The names that proofs of this crate cite of definitions and of other libraries. Declares nothing.
pub use Rattle.cargo_toml.specs.Action.{Item, Text, item_of}
pub use Rattle.cargo_toml.specs.Admitted.{Listed, admitted, is_explicit}
pub use Rattle.cargo_toml.specs.Details.{Detail, detail_of, plain_detail}
pub use Rattle.cargo_toml.specs.Marks.{marked, marks_in, marks_of}
pub use Rattle.cargo_toml.specs.Parsed.{IsParsed, parsed_entries, parsed_table}
pub use Rattle.cargo_toml.specs.Reach.{Among, Gathers, Reaches}
pub use Rattle.cargo_toml.specs.Views.{answer_of, listed_in, set_has, table_in, value_at}
pub use Rattle.cargo_toml_features.proofs.ByPlace.{among_at, at_among, once}
pub use Rattle.cargo_toml_features.proofs.NoneRemoved.{enables_has, held, there}
pub use Rattle.cargo_toml_graph.proofs.BinLists.{among-either, among-first, among-second}
pub use Rattle.cargo_toml_lint.specs.Findings.{About, Counts, HoldsOf, IsCyclic, IsFound, IsOnlyDefault, IsUnreachable, about, asked_of, entry_findings, feature_findings, findings_by, is_hidden, is_private, list_findings, product_findings, required_fault, table_findings, texts_findings, told, when, written_findings}
pub use Rattle.cargo_toml_lint.specs.Known.{Marked, Names, acted_by, acted_keys, all_names, has_key, is_name, keys_in, target_tables}
pub use Rattle.cargo_toml_lint.specs.Linked.{AreLed, AreLinks, AreWalked, AreWalks, LeadsOn, Passes, name_at, names_of}
pub use Rattle.cargo_toml_lint.specs.Names.{held_names, key_of, listed_by, table_of}
pub use Rattle.cargo_toml_lint.specs.Reached.{HasEdges, IsFinished, IsFlagged, IsInRing, IsWhole, Leads, Path, Searches, Stands, edges_left, row_at}
pub use Rattle.cargo_toml_lint.specs.Steps.{CountsBy, Finds, explicit_at, implied_at, is_beyond, private_at, written_in}
pub use Rattle.cargo_toml_lint.specs.Taken.{may_follow, may_name, may_start}
pub use Rattle.cargo_toml_lint.specs.Turning.{turned, turning, turning_by, turns_to}
pub use Rattle.cargo_toml_lint.specs.declared.finding.Code.TheVariants.{BadRequest, Cycle, FeatureTable, Implied, PrivateDefault, Unreachable}
pub use Rattle.cargo_toml_package.specs.declared.dependency.Dependency.TheVariants.{Detailed, Inherited, Simple}
pub use Rattle.std.proofs.Common.{Bool, Bor, Global, IfSome, IsTrue, List, None, Option, Ordering, Some, String, Vec, [], ap, append-nil, append_assoc, ap₂, arith, bytes_eq, codes, cond, false, get_or, inl, inr, is_some, length, length-append, length-set, map, nat_eq, nat_lt, not, option_map, refl, rules, set, slice_get, string_bytes, subst, suc, sym, take, tests, true, zero, ℕ, ◌&&◌, ◌++◌, ◌+◌, ◌-◌, ◌<◌, ◌==◌, ◌||◌, ◌↔◌, ◌∙◌, ◌∷◌, ◌≡◌, ◌≢◌, ◌≤◌, ◌⊎◌}
pub use Rattle.std.proofs.lemmas.Bool.{and_from, and_parts, cases_Bool, cases_eq, false_from_ne_true, false≢true, not-true, not_from_false, or_cases, or_left, or_right}
pub use Rattle.std.proofs.lemmas.Iterator.Consumers.{YieldsList-end, YieldsList-from_copied, YieldsList-from_rest, YieldsList-turn}
pub use Rattle.std.proofs.lemmas.List.{get_or-set_other, get_or-set_same, get_or_read, length-map, map_push, take_all, take_more}
pub use Rattle.std.proofs.lemmas.List.Kept.{Any-dedup, Contains-from_dedup, IsStrictlySortedBy-dedup}
pub use Rattle.std.specs.BTreeMap.{BTreeMap, get_by_text, is_at}
pub use Rattle.std.specs.List.{Contains, dedup, flat_map, list_all, list_any}
pub use Rattle.std.specs.List.Sorted.{IsPermutation, IsSorted, IsStrictlySortedBy}
pub use Rattle.cargo_toml.{specs.Action.Item.Name, specs.Action.Item.On, specs.Ascending.Ascend, specs.Dependencies.DependencyMeaning, specs.Dependencies.dependency_meaning, specs.Feature.Feature, specs.Filter.Asked, specs.Filter.FilterTells, specs.Graph.Edge, specs.Graph.Table, specs.Manifests.ManifestMeaning}
pub use Rattle.cargo_toml.{specs.Manifests.manifest_meaning, specs.Products.product_meaning, specs.Reach.Reaches.edge, specs.Reach.Reaches.through, specs.Reads.map_meaning, specs.Recorded.Entry, specs.Recorded.is_implied, specs.Recursive.Enables, specs.Recursive.Enables.further, specs.Recursive.Enables.itself}
pub use Rattle.cargo_toml.{specs.Removal.is_removed, specs.Resolved.Answer, specs.Targets.TargetMeaning, specs.Targets.target_meaning}
pub use Rattle.cargo_toml_features.{proofs.TextKeys.inserted, proofs.TextKeys.none_in, specs.ActionText.action_in, specs.ActionText.item_in, specs.Places.nth_text, specs.declared.action.ActionText.ActionText, specs.declared.features.Features.Features}
pub use Rattle.cargo_toml_graph.{proofs.Closure.chained}
pub use Rattle.cargo_toml_lint.{specs.contracts.finding.Code.the_type, specs.declared.finding.Code.Code, specs.declared.finding.Finding.Finding, specs.declared.known.Known.Known, specs.declared.linking.Links.Links, specs.declared.reach.Reach.Reach, specs.declared.walks.Walks.Walks}
pub use Rattle.cargo_toml_package.{specs.DependencyAnswers.features_at, specs.declared.dependency.Dependency.Dependency, specs.declared.target.Target.Target}
pub use Rattle.std.{proofs.Math.Bool.and-true, proofs.Math.Bool.or-false, proofs.lemmas.Bool.Decides.Decides-eqb, proofs.lemmas.Cmp.eq_by_cmp_equiv, proofs.lemmas.Grind.common_steps, proofs.lemmas.Iterator.YieldsList-from_chars, proofs.lemmas.Iterator.items_from_collect}
pub use Rattle.std.{proofs.lemmas.Iterator.Search.all_from_yields_List, proofs.lemmas.List.Concat.flat_map-append, proofs.lemmas.List.Filters.dedup_is, proofs.lemmas.List.Folds.list_any-append, proofs.lemmas.List.Sorted.Contains-permutation, proofs.lemmas.List.Sorted.IsPermutation-sym, proofs.lemmas.Map.Iter.rest_all}
pub use Rattle.std.{proofs.lemmas.Map.Iter.rest_more, proofs.lemmas.Map.Text.is_eq-slice_cmp, proofs.lemmas.Result.IfOk-weaker, proofs.lemmas.Slice.Eq.bytes_eq-Decides, specs.BTreeSet.BTreeSet, specs.Cmp.IsEquivalence, specs.Cmp.Lexicographic.slice_cmp, specs.Fn.FnReturnsAt}
pub use Rattle.std.{specs.HashMap.HashMap, specs.List.Retain.DiffersFromLast, specs.List.Retain.IsFiltered, specs.Map.lookup, specs.Map.Iter.TakesFirst, specs.Option.option_copied, specs.Option.option_map_or, specs.Ordering.is_eq, specs.Ordering.nat_cmp, specs.Prelude.unwrap_or, specs.Str.chars}
pub use denote.Enum.{Bare.same_true}
